use Rattle.std.proofs.Common.{length}
use Rattle.oplog_store.specs.Places.{Moved}
use Rattle.oplog_store.proofs.places.gather.Given as goal

abbrev pub invariant-loop-settled : goal.invariant-loop-settled
invariant-loop-settled l = Moved l.initial.settled.entries l.initial.beyond.items l.initial.settled.spare l.settled.entries l.beyond.items l.settled.spare

abbrev pub decreases-loop-settled : goal.decreases-loop-settled
decreases-loop-settled l = length l.beyond.items
