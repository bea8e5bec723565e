mod NumberLemmas
mod WordLemmas
