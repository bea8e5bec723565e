pub mod Commands
pub mod Faults
pub mod Fits
pub mod Gives
pub mod Question
pub mod Texts
pub mod Wants
