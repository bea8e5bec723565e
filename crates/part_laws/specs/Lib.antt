pub mod Concerns
pub mod Elections
pub mod Logs
pub mod Points
