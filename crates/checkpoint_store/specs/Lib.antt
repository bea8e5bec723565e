pub mod Code
pub mod Layout
pub mod Spelled
pub mod Checkpoint
pub mod Shown
pub mod Marked
pub mod Folded
pub mod Files
