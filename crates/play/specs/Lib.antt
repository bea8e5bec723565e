pub mod History
pub mod Lines
pub mod Machine
pub mod Play
pub mod Script
pub mod Sent
