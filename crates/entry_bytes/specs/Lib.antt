pub mod Answer
pub mod Layout
pub mod Optimes
pub mod Parts
pub mod Sizes
