mod TellLemmas
