pub mod Acting
pub mod Hears
pub mod Newest
pub mod Plain
pub mod Reached
