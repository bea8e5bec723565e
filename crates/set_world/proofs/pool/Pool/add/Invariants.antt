use Rattle.std.specs.Vec.Iter.{into_iter_items}
use Rattle.set_world.specs.Pool.{AddsSoFar}
use Rattle.set_world.proofs.pool.Pool.add.Given as goal

abbrev pub invariant-loop-message : goal.invariant-loop-message
invariant-loop-message l = AddsSoFar l.fn.self l.fn.sent.items l.self (into_iter_items l.message-iterator)
