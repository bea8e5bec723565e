use Rattle.version_store.proofs.RowLemmas.{order_none}
use Rattle.version_store.proofs.row.Row.new.Goals as goal

pub invariant_of-result : goal.invariant_of-result
invariant_of-result c = rw c.new.ensures.items order_none
