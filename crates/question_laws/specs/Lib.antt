pub mod Covered
pub mod Doing
pub mod Following
pub mod Lawful
pub mod Laws
pub mod Meeting
