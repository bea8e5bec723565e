pub mod AnswerLemmas
pub mod LayoutLemmas
pub mod MarkLemmas
pub mod OptimeLemmas
pub mod PartLemmas
pub mod PlaceLemmas
pub mod AppendingLemmas
pub mod DirectLemmas
