pub mod Documents
pub mod Growing
