pub mod Asking
pub mod Going
pub mod Linear
pub mod Points
pub mod Talk
pub mod Written
