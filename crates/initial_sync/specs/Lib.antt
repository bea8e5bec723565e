pub mod Copies
pub mod Pinned
pub mod Missing
pub mod Moments
pub mod Answers
pub mod Runs
pub mod Reading
