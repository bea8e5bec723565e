pub mod Acknowledged
pub mod Kept
