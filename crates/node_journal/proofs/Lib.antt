mod NumberLemmas
mod PartLemmas
mod LoopLemmas
mod OrderLemmas
pub mod SizeLemmas
mod JournalLemmas
pub mod RenewLemmas
pub mod ApartLemmas
pub mod DiskLemmas
