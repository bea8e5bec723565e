use Rattle.std.proofs.Common.{◌≡◌, false, rules}
use Rattle.node_core.specs.Down.{down_state}
use Rattle.node_core.proofs.PowerLemmas.{acted_crash, crash_refused, cut_lies}
use Rattle.node_core.proofs.node.Node.crash.Goals as goal

pub invariant_of-self : goal.invariant_of-self
invariant_of-self g c =
    let s = c.self.inside in
    cut_lies c.args.pick s.state.node (down_state c.left_of.result)
    (g.D.Disk.state s.disks.journal.0) (g.D.Disk.state c.cut_power.new.self.journal.0) (g.D.Disk.state s.disks.checkpoints) (g.D.Disk.state c.cut_power.new.self.checkpoints)
    c.cut_power.ensures.journal c.cut_power.ensures.checkpoints c.left_of.ensures
    s.up (down_state s.left) s.disks.count c.cut_power.new.self.count c.if-not-self.false c.self.invariant c.cut_power.ensures.count c.recall_well_kept.ensures

pub returns-then-not-self-clause-ok : goal.returns-then-not-self-clause-ok
returns-then-not-self-clause-ok g c =
    let s = c.self.inside in
    let d = c.answered in
    let down : s.up ≡ false = search rules in
    rw (← c.self.view_is) (λ nodes next number. crash_refused s.up s.state.node (down_state s.left) s.disks.count
    (g.D.Disk.state s.disks.journal.0) (g.D.Disk.state s.disks.checkpoints) down c.self.invariant nodes next number c.args.pick d.result
    d.ensures.reply d.ensures.sent d.ensures.failed d.ensures.unkept)

pub returns-clause-ok : goal.returns-clause-ok
returns-clause-ok g c =
    let s = c.self.inside in
    let d = c.answered-2 in
    rw (← c.self.view_is) (λ nodes next number. acted_crash c.args.pick s.state.node (down_state c.left_of.result)
    (g.D.Disk.state s.disks.journal.0) (g.D.Disk.state c.cut_power.new.self.journal.0) (g.D.Disk.state s.disks.checkpoints) (g.D.Disk.state c.cut_power.new.self.checkpoints)
    c.cut_power.ensures.journal c.cut_power.ensures.checkpoints c.left_of.ensures
    s.up (down_state s.left) s.disks.count c.if-not-self.false c.self.invariant nodes next number d.result c.recall_sound.ensures.up c.recall_sound.ensures.settled
    d.ensures.reply d.ensures.sent d.ensures.failed d.ensures.unkept)
