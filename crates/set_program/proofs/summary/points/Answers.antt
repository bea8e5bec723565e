use Rattle.set_program.proofs.PointLemmas.{points_more}
use Rattle.set_program.proofs.summary.points.Goals as goal

pub loop-node-preserved : goal.loop-node-preserved
loop-node-preserved g c =
    points_more c.args.nodes.now c.loop-node.node-index c.node-item.result c.points.result c.loop-node.points c.push.new.self
    c.loop-node-test.true c.node-item.is c.points.ensures c.loop-node.invariant c.in_ok-push.ensures.ok
