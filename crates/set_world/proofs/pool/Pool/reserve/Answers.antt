use Rattle.set_world.proofs.PoolLemmas.{indexed_same}
use Rattle.set_world.proofs.pool.Pool.reserve.Goals as goal

pub invariant_of-self-2 : goal.invariant_of-self-2
invariant_of-self-2 c =
    rw c.reserve.ensures.items
    (indexed_same c.self.inside.nodes c.self.inside.messages.items c.self.inside.newest.entries c.reserve-2.new.self.entries c.self.invariant c.reserve-2.ensures.entries.2)
