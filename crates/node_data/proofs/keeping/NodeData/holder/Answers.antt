use Rattle.std.proofs.Common.{◌∙◌}
use Rattle.node_data.proofs.HolderLemmas.{holder_is}
use Rattle.node_data.proofs.keeping.NodeData.holder.Goals as goal

pub returns : goal.returns
returns c = rw (← c.self.view_is) (c.holder.ensures ∙ holder_is _ c.self.inside.store (c.args.ns.now, c.args.id.now) c.self.invariant)
