pub mod CommonLemmas
pub mod RowLemmas
pub mod VisibleLemmas
