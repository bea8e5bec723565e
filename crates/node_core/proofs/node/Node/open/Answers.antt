use Rattle.std.proofs.Common.{inl, refl, subst, sym}
use Rattle.set_model.specs.Node.{Node, opening_node}
use Rattle.node_core.specs.OnDisks.{UpOnDisks}
use Rattle.node_core.proofs.ActingLemmas.{rests_stand}
use Rattle.node_core.proofs.OpeningLemmas.{none_begun, unopened_empty}
use Rattle.node_core.proofs.node.Node.open.Goals as goal

pub invariant_of-result : goal.invariant_of-result
invariant_of-result g c =
    subst (λ (node : Node). UpOnDisks node c.in-Ok-open.disks.count (g.D.Disk.state c.in-Ok-open.disks.journal.0) (g.D.Disk.state c.in-Ok-open.disks.checkpoints)) (sym c.in-Ok.ensures)
    (c.in-Ok-open.ensures.rests c.args.config.now c.args.number)

pub returns-in-Ok-open-clause-stands : goal.returns-in-Ok-open-clause-stands
returns-in-Ok-open-clause-stands g c =
    let node = opening_node c.args.config.now c.args.number in
    rests_stand node c.in-Ok-open.disks.count (g.D.Disk.state c.in-Ok-open.disks.journal.0) (g.D.Disk.state c.in-Ok-open.disks.checkpoints)
    (c.in-Ok-open.ensures.rests c.args.config.now c.args.number)

pub returns-in_default-clause-any_moment : goal.returns-in_default-clause-any_moment
returns-in_default-clause-any_moment g c =
    let j = g.D.Disk.state c.args.journal in
    let k = g.D.Disk.state c.args.checkpoint in
    none_begun c.args.config.now c.args.number j j k k c.requires.journal c.requires.checkpoint

pub returns-in-Err-clause-any_moment : goal.returns-in-Err-clause-any_moment
returns-in-Err-clause-any_moment g c = c.in-Err.ensures.any_moment c.args.config.now c.args.number

pub returns-in-Ok-open-clause-any_moment : goal.returns-in-Ok-open-clause-any_moment
returns-in-Ok-open-clause-any_moment g c = c.in-Ok-open.ensures.any_moment c.args.config.now c.args.number

pub returns-in_default-clause-calls : goal.returns-in_default-clause-calls
returns-in_default-clause-calls g c = inl (unopened_empty (g.D.Disk.state c.args.journal) c.requires.journal, refl)
