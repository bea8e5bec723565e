pub mod CheckedLemmas
mod HeaderLemmas
mod LinesCut
mod PassingLemmas
mod PutLemmas
mod TellingLemmas
pub mod TraceLemmas
