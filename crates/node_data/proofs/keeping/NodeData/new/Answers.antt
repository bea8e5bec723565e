use Rattle.node_data.proofs.RoleLemmas.{kept_new}
use Rattle.node_data.proofs.keeping.NodeData.new.Goals as goal

pub invariant_of-result : goal.invariant_of-result
invariant_of-result c = rw (c.new.ensures, c.new-2.ensures, c.new-3.ensures) (kept_new c.in_ok-new.field-0 c.in_ok-new.ensures.count c.in_ok-new.ensures.empty)
