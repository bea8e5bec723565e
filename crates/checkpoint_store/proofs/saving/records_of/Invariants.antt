use Rattle.std.proofs.Common.{◌-◌, ◌++◌, ◌∷◌, [], drop, length, map}
use Rattle.version_store.specs.Shown.{placed}
use Rattle.checkpoint_store.specs.Checkpoint.{checkpoint_of, pieces}
use Rattle.checkpoint_store.specs.Layout.{ends}
use Rattle.checkpoint_store.proofs.SavingLemmas.{LaidSoFar}
use Rattle.checkpoint_store.proofs.saving.records_of.Given as goal

abbrev pub decreases-loop-place : goal.decreases-loop-place
decreases-loop-place l = length l.documents - l.place

abbrev pub invariant-loop-place : goal.invariant-loop-place
invariant-loop-place l = LaidSoFar (checkpoint_of l.fn.at (map placed l.documents)) (pieces (map placed (drop l.place l.documents)) ++ ends ∷ []) l.records.items
