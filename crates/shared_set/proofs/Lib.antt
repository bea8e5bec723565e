mod AttemptLemmas
mod CallLemmas
mod CallerLemmas
mod HeardLemmas
