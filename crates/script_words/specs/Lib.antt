pub mod Commands
pub mod Configs
pub mod Gives
pub mod Set
pub mod Values
pub mod Words
