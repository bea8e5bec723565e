pub mod Acting
pub mod Disks
pub mod Points
pub mod Pool
pub mod Stepper
pub mod Went
pub mod World
