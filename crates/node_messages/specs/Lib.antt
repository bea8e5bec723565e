pub mod Ahead
pub mod Fetched
pub mod HeardBeats
pub mod Rolling
pub mod Trying
