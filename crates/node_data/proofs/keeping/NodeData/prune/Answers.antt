use Rattle.node_data.proofs.FollowLemmas.{kept_pruned}
use Rattle.node_data.proofs.keeping.NodeData.prune.Goals as goal

pub invariant_of-self : goal.invariant_of-self
invariant_of-self c =
    let later = rw (← c.self.view_is) at c.requires.later in
    let applied = rw (← c.self.view_is) at c.requires.applied in
    kept_pruned _ c.self.inside.store c.prune.new.self c.args.at c.self.invariant later applied c.prune.ensures.dropped
