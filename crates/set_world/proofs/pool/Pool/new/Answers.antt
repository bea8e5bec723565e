use Rattle.set_world.proofs.PoolLemmas.{indexed_none}
use Rattle.set_world.proofs.pool.Pool.new.Goals as goal

pub invariant_of-result : goal.invariant_of-result
invariant_of-result c = rw (c.new.ensures.items, c.new-2.ensures.empty) (indexed_none c.args.nodes)
