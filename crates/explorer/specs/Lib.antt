pub mod Ending
pub mod Exploring
pub mod Levels
pub mod Paths
pub mod Replaying
pub mod Standings
pub mod States
