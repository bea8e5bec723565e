use Rattle.std.proofs.Common.{◌≡◌, ◌≤◌, ◌-◌, length}
use Rattle.doc_shelf.specs.Shelf.{IsOfFront}
use Rattle.doc_shelf.proofs.shelf.Shelf.forth_to.Given as goal

abbrev pub invariant-loop-place : goal.invariant-loop-place
invariant-loop-place l = IsOfFront l.entries l.self × (l.place ≡ length l.self.before) × (l.place ≤ l.count)

abbrev pub decreases-loop-place : goal.decreases-loop-place
decreases-loop-place l = l.count - l.place
