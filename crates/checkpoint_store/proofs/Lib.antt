mod PartLemmas
mod LoopLemmas
mod SizeLemmas
mod FileLemmas
mod CheckpointLemmas
mod CopyLemmas
mod ListedLemmas
pub mod OnceLemmas
mod ShownLemmas
mod SavingLemmas
mod DiskLemmas
mod MarkedLemmas
