pub mod FoundLemmas
pub mod KeepLemmas
pub mod NumberLemmas
pub mod VoterLemmas
