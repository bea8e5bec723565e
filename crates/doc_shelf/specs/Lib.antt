pub mod Code
pub mod Shelf
