pub mod AgainLemmas
pub mod DocumentLemmas
pub mod NumberLemmas
pub mod PartLemmas
pub mod ReadingLemmas
pub mod SpellingLemmas
pub mod TextLemmas
pub mod ValueLemmas
