pub mod Lines
pub mod Merge
pub mod Script
