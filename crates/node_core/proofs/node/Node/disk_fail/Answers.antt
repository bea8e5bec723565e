use Rattle.node_core.specs.Down.{down_state}
use Rattle.node_core.proofs.PowerLemmas.{acted_fail, armed_rests}
use Rattle.node_core.proofs.node.Node.disk_fail.Goals as goal

pub invariant_of-self : goal.invariant_of-self
invariant_of-self g c =
    let s = c.self.inside in
    armed_rests c.args.disk c.args.call c.args.pick s.state.node (down_state s.left) s.disks.count
    (g.D.Disk.state s.disks.journal.0) (g.D.Disk.state c.arm.new.self.journal.0) (g.D.Disk.state s.disks.checkpoints) (g.D.Disk.state c.arm.new.self.checkpoints)
    c.arm.ensures.armed s.up c.arm.new.self.count c.arm.ensures.count c.self.invariant

pub returns-clause-ok : goal.returns-clause-ok
returns-clause-ok g c =
    let s = c.self.inside in
    let d = c.answered in
    rw (← c.self.view_is) (λ nodes next number. acted_fail c.args.disk c.args.call c.args.pick s.state.node (down_state s.left) s.disks.count
    (g.D.Disk.state s.disks.journal.0) (g.D.Disk.state c.arm.new.self.journal.0) (g.D.Disk.state s.disks.checkpoints) (g.D.Disk.state c.arm.new.self.checkpoints)
    c.arm.ensures.armed s.up c.self.invariant nodes next number d.result d.ensures.reply d.ensures.sent d.ensures.failed d.ensures.unkept)
