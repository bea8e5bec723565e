pub mod Admits
pub mod Listing
pub mod Plain
pub mod Reading
