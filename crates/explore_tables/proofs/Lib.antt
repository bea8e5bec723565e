mod ChainLemmas
mod NodeLemmas
mod PlaceLemmas
mod RowLemmas
pub mod Tables
