use Rattle.node_core.specs.Down.{down_state}
use Rattle.node_core.proofs.ActingLemmas.{took_clock, took_down}
use Rattle.node_core.proofs.node.Node.act_down.Goals as goal

pub returns-in-Clock-clause-ok : goal.returns-in-Clock-clause-ok
returns-in-Clock-clause-ok g c =
    let s = c.self.inside in
    let down = rw (← c.self.view_is) at c.requires.down in
    rw (← c.self.view_is) (λ nodes next. took_clock s.state.node (down_state s.left) s.disks.count (g.D.Disk.state s.disks.journal.0) (g.D.Disk.state s.disks.checkpoints)
    c.answered.result c.answered.ensures.failed c.answered.ensures.sent
    s.up c.self.invariant c.recall_sound.ensures.up down nodes next c.args.command.now c.in-Clock.node c.in-Clock.seconds c.in-Clock.is c.answered.ensures.reply)

pub returns-in_default : goal.returns-in_default
returns-in_default g c =
    let s = c.self.inside in
    let d = c.answered-in_default in
    let down = rw (← c.self.view_is) at c.requires.down in
    rw (← c.self.view_is) (record {
      ok = λ nodes next. took_down s.state.node (down_state s.left) s.disks.count (g.D.Disk.state s.disks.journal.0) (g.D.Disk.state s.disks.checkpoints)
          d.result d.ensures.failed d.ensures.sent
          s.up c.self.invariant nodes next c.args.command.now c.requires.own c.in_default.not-Clock down d.ensures.reply;
      unkept = d.ensures.unkept;
    })
