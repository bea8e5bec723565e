use Rattle.checker_machine.proofs.PoolLemmas.{none_newest}
use Rattle.checker_machine.proofs.pool.Pool.new.Goals as goal

pub invariant_of-result : goal.invariant_of-result
invariant_of-result c = none_newest c.new.result.items c.new-2.result.entries c.new.ensures.items c.new-2.ensures.empty
