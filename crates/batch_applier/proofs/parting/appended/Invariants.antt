use Rattle.std.proofs.Common.{◌≡◌, ◌++◌, length}
use Rattle.batch_applier.proofs.PieceLemmas.{JoinedUpTo}
use Rattle.batch_applier.proofs.parting.appended.Given as goal

-- the parts so far have theirs of the piece
abbrev pub invariant-loop-touches : goal.invariant-loop-touches
invariant-loop-touches l =
    (l.place ≡ length l.yielded)
    × JoinedUpTo l.fn.parts.items l.fn.piece.items l.parts.items l.place
    × (l.yielded ++ l.touches-iterator.rest.items ≡ l.fn.piece.items)
