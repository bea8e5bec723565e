pub mod Bounds
pub mod Coherent
pub mod Ready
pub mod Seen
pub mod StateView
pub mod MessageContinuation
pub mod Turns
pub mod WellKept
