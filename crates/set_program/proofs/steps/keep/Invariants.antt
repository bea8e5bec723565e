use Rattle.std.proofs.Common.{◌≡◌, ◌++◌}
use Rattle.std.specs.Vec.Iter.{into_iter_items}
use Rattle.set_program.specs.Parts.{unplaced}
use Rattle.set_program.proofs.steps.keep.Given as goal

abbrev pub invariant-loop-line : goal.invariant-loop-line
invariant-loop-line l = l.replies.items ++ unplaced (into_iter_items l.line-iterator) ≡ l.initial.replies.items ++ unplaced l.fn.told.items
