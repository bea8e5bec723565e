pub mod Code
pub mod Kept
pub mod NodeData
pub mod SessionLog
pub mod Sound
pub mod Told
pub mod Versions
pub mod Writers
