pub mod AdmitLemmas
pub mod ListingLemmas
pub mod ReadingLemmas
