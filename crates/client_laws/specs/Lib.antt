pub mod Acknowledged
pub mod Linearizable
pub mod Told
