pub mod Alike
pub mod Dead
pub mod Laws
pub mod Settled
pub mod Steps
