use Rattle.set_model.specs.Deliver.{deliver}
use Rattle.node_core.specs.Down.{down_state}
use Rattle.node_core.proofs.EndingLemmas.{took_ended, unchanged}
use Rattle.node_core.proofs.node.Node.take.Goals as goal

pub returns-in_err-ended-clause-err : goal.returns-in_err-ended-clause-err
returns-in_err-ended-clause-err g c =
    let s = c.self.inside in
    let disks = c.take_in.new.disks in
    let e = c.in_err-ended.ensures in
    rw (← c.self.view_is) (unchanged c.from_residual.result s.up s.state.node c.take_in.new.state.node (down_state s.left) disks.count
    (g.D.Disk.state s.disks.journal.0) (g.D.Disk.state disks.journal.0) (g.D.Disk.state s.disks.checkpoints) (g.D.Disk.state disks.checkpoints)
    c.if-not-self.false e.same e.left e.unused)

pub returns-clause-ok : goal.returns-clause-ok
returns-clause-ok g c =
    let s = c.self.inside in
    let disks = c.take_in.new.disks in
    let e = c.in_ok-ended.ensures in
    let t = c.told.ensures in
    rw (← c.self.view_is) (took_ended (λ n. deliver c.args.next n c.args.message.now) s.up c.told.new.up s.state.node c.take_in.new.state.node (down_state s.left) (down_state c.told.new.left) disks.count
    (g.D.Disk.state s.disks.journal.0) (g.D.Disk.state disks.journal.0) (g.D.Disk.state s.disks.checkpoints) (g.D.Disk.state disks.checkpoints)
    c.in_ok-ended.ended c.told.result c.if-not-self.false e.ends e.leaves e.runs t.follows t.rests t.failed e.unstored)
