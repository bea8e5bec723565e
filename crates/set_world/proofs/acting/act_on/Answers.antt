use Rattle.std.proofs.Common.{length}
use Rattle.node_core.specs.Acting.{DisksLeft}
use Rattle.set_world.specs.Acting.{NodeActed, NodeUnchanged}
use Rattle.set_world.proofs.DiskLemmas.{done_at, undone_at}
use Rattle.set_world.proofs.NodesLemmas.{node_at}
use Rattle.set_world.proofs.acting.act_on.Goals as goal

pub act-requires-clause-bounds : goal.act-requires-clause-bounds
act-requires-clause-bounds g c κs within = c.requires.bounds c.args.number _ (node_at c.args.nodes.now c.args.number c.index-nodes-number.result c.requires.known)

pub returns-clause-ok : goal.returns-clause-ok
returns-clause-ok g c =
    done_at (NodeActed g.D.Disk.state (length c.args.nodes.now) c.args.next c.args.command.now) c.args.nodes.now c.args.number c.index-nodes-number.result c.act.new.self c.act.result c.requires.known c.act.ensures.ok

pub returns-clause-err : goal.returns-clause-err
returns-clause-err g c = undone_at (NodeUnchanged g.D.Disk.state (DisksLeft c.args.command.now)) c.args.nodes.now c.args.number c.index-nodes-number.result c.act.new.self c.act.result c.requires.known c.act.ensures.err
