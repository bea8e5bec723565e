use Rattle.node_data.proofs.FollowLemmas.{kept_cut}
use Rattle.node_data.proofs.keeping.NodeData.drop_unapplied.Goals as goal

pub invariant_of-self : goal.invariant_of-self
invariant_of-self c =
    let role = rw (← c.self.view_is) at c.requires.role in
    let point = rw (← c.self.view_is) at c.requires.point in
    rw c.cut.ensures.entries (kept_cut _ c.self.inside.store c.self.invariant role point)
