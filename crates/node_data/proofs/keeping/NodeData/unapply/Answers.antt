use Rattle.node_data.proofs.BatchesLemmas.{kept_back}
use Rattle.node_data.proofs.keeping.NodeData.unapply.Goals as goal

pub invariant_of-self : goal.invariant_of-self
invariant_of-self c =
    let role = rw (← c.self.view_is) at c.requires.role in
    let kept = rw (← c.self.view_is) at c.requires.kept in
    let applied = rw (← c.self.view_is) at c.requires.applied in
    kept_back _ c.self.inside.store c.back_to.new.self c.args.at c.self.invariant role kept applied c.back_to.ensures
