use Rattle.node_core.specs.Acting.{AreSame}
use Rattle.set_world.specs.Acting.{NodeTook, NodeUnchanged}
use Rattle.set_world.proofs.DiskLemmas.{done_at, undone_at}
use Rattle.set_world.proofs.NodesLemmas.{node_at}
use Rattle.set_world.proofs.acting.take_at.Goals as goal

pub take-requires-clause-bounds : goal.take-requires-clause-bounds
take-requires-clause-bounds g c κs within = c.requires.bounds c.args.message.now.to _ (node_at c.args.nodes.now c.args.message.now.to c.index-nodes-message.result c.requires.known)

pub take-requires-clause-message : goal.take-requires-clause-message
take-requires-clause-message g c κs within = c.requires.message _ (node_at c.args.nodes.now c.args.message.now.to c.index-nodes-message.result c.requires.known)

pub returns-clause-ok : goal.returns-clause-ok
returns-clause-ok g c =
    done_at (NodeTook g.D.Disk.state c.args.next c.args.message.now) c.args.nodes.now c.args.message.now.to c.index-nodes-message.result c.take.new.self c.take.result c.requires.known c.take.ensures.ok

pub returns-clause-err : goal.returns-clause-err
returns-clause-err g c = undone_at (NodeUnchanged g.D.Disk.state AreSame) c.args.nodes.now c.args.message.now.to c.index-nodes-message.result c.take.new.self c.take.result c.requires.known c.take.ensures.err
