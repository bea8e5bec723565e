mod MakeLemmas
mod TellLemmas
