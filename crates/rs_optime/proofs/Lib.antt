pub mod MembershipLemmas
pub mod Optimes
pub mod OrderLemmas
pub mod PartLemmas
