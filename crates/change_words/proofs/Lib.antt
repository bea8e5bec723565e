pub mod NodeLemmas
mod TextLemmas
