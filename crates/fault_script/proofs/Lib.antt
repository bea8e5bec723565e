mod CommandFits
pub mod LinesCut
mod ListsLast
pub mod MergeLemmas
mod WholeCounts
pub mod WholeFits
mod WholeRead
