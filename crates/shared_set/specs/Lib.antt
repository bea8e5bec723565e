pub mod Attempts
pub mod Calls
pub mod Sets
pub mod Passes
