pub mod Asking
pub mod Calls
pub mod Errors
pub mod Law
pub mod Shown
