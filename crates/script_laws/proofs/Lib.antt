mod ChanceAsks
mod ChanceDocuments
mod ChanceDrawn
pub mod ChanceLines
pub mod ChanceWords
mod ChanceWrites
pub mod ChanceIsScript
