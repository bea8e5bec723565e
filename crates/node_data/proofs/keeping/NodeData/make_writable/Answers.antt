use Rattle.node_data.proofs.RoleLemmas.{kept_primary}
use Rattle.node_data.proofs.keeping.NodeData.make_writable.Goals as goal

pub invariant_of-self : goal.invariant_of-self
invariant_of-self c =
    let role = rw (← c.self.view_is) at c.requires.role in
    let applied = rw (← c.self.view_is) at c.requires.applied in
    rw c.tabulate.ensures.entries (kept_primary _ c.self.inside.store c.self.invariant role applied)
