use Rattle.node_data.proofs.GoesOnLemmas.{kept_stepped}
use Rattle.node_data.proofs.keeping.NodeData.follow.Goals as goal

pub invariant_of-self : goal.invariant_of-self
invariant_of-self c =
    let reached = rw (← c.self.view_is) at c.reached-reached.ensures in
    rw (reached, c.lose_all.ensures, c.abort_all.ensures, c.gather.ensures)
    (kept_stepped _ c.self.inside.store c.release_all.new.store c.self.invariant c.release_all.ensures.count c.release_all.ensures.versions c.release_all.ensures.free)
