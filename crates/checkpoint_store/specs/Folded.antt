-- The state that the records read so far add up to.
use Rattle.checkpoint_store.specs.Checkpoint.{SoFar}
use Rattle.checkpoint_store.specs.declared.fold.Fold.{Fold}

abbrev pub so_far : Fold → SoFar
so_far fold = record { whole = fold.whole; begun = fold.begun }
