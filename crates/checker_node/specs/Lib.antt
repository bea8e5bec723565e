pub mod Admits
pub mod Done
pub mod Flushing
pub mod Forgets
pub mod Hearing
pub mod Same
pub mod Slots
pub mod Sound
