pub mod Acts
pub mod DeadEvents
pub mod Fitting
pub mod Lines
pub mod Plain
pub mod Search
pub mod Texts
pub mod Wants
