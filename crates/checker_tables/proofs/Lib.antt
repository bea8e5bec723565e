mod CopyLemmas
pub mod FrontLemmas
mod HoldingLemmas
pub mod JournalLemmas
pub mod ListedLemmas
pub mod LogLemmas
mod MergeLemmas
mod RunLemmas
pub mod SameLemmas
mod SessionLemmas
mod SlotLemmas
mod TouchLemmas
pub mod UnkeptLemmas
