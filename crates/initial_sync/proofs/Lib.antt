mod FrontLemmas
mod PartLemmas
pub mod MomentLemmas
mod RunLemmas
mod WritingLemmas
mod DocumentLemmas
mod EntryLemmas
mod ReadingLemmas
