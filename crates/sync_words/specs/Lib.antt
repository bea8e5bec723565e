pub mod Causes
pub mod Putting
pub mod Texts
