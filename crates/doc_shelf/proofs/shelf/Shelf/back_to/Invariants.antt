use Rattle.std.proofs.Common.{◌≤◌, length}
use Rattle.doc_shelf.specs.Shelf.{IsOfFront}
use Rattle.doc_shelf.proofs.shelf.Shelf.back_to.Given as goal

abbrev pub invariant-loop-self : goal.invariant-loop-self
invariant-loop-self l = IsOfFront l.entries l.self × (length l.self.before ≤ length l.initial.self.before)

abbrev pub decreases-loop-self : goal.decreases-loop-self
decreases-loop-self l = length l.self.before
