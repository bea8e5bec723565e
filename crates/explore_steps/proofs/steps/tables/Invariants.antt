use Rattle.std.proofs.Common.{◌≡◌, length}
use Rattle.explore_steps.specs.Keeping.{AreEmpty}
use Rattle.explore_steps.proofs.steps.tables.Given as goal

abbrev pub invariant-loop-place : goal.invariant-loop-place
invariant-loop-place l = record { count : length l.tables.items ≡ l._place; none : AreEmpty l.tables.items }
