use Rattle.std.proofs.Common.{◌≡◌, length}
use Rattle.batch_applier.proofs.FreshLemmas.{AreNumbered}
use Rattle.checks_stores.proofs.batches.batch.Given as goal

abbrev pub invariant-loop-place : goal.invariant-loop-place
invariant-loop-place l = (length l.entries.items ≡ l.place) × AreNumbered l.entries.items
