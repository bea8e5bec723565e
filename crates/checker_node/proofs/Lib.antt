mod BeatLemmas
mod ChangeLemmas
mod DiskLemmas
pub mod DoesLemmas
mod ElectionLemmas
mod FetchLemmas
mod HearLemmas
mod RollbackLemmas
mod SameLemmas
mod VoterLemmas
mod WriteLemmas
