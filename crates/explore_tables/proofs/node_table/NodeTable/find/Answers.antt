use Rattle.std.proofs.Common.{◌-◌, arith, subst, List}
use Rattle.set_model.specs.Node.{Node}
use Rattle.explore_tables.specs.Alike.{HasAlike}
use Rattle.explore_tables.proofs.NodeLemmas.{alike_at}
use Rattle.explore_tables.proofs.node_table.NodeTable.find.Goals as goal

pub returns-then-same : goal.returns-then-same
returns-then-same c =
    subst (λ (nodes : List Node). HasAlike nodes (c.loop-link.link - 1) c.args.node.now) c.self.view_is
    (alike_at c.self.inside.nodes.items _ c.args.node.now c.index.result.now (omega (arith, c.loop-link.invariant, c.self.invariant, c.loop-link-test.true)) c.index.ensures
    (c.same.ensures c.if-same.true))
