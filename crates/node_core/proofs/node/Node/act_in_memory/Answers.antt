use Rattle.std.proofs.Common.{◌≡◌, true, false, rules}
use Rattle.set_model.specs.Rows.{row}
use Rattle.node_state.specs.Bounds.{is_plain}
use Rattle.node_core.specs.Down.{down_state}
use Rattle.node_core.proofs.EndingLemmas.{took_ended, unchanged}
use Rattle.node_core.proofs.PuttingLemmas.{same_none}
use Rattle.node_core.proofs.PlainLemmas.{plain_rests, took_plain, up_rests}
use Rattle.node_core.proofs.node.Node.act_in_memory.Goals as goal

pub returns-then-is_plain-clause-ok : goal.returns-then-is_plain-clause-ok
returns-then-is_plain-clause-ok g c =
    let s = c.self.inside in
    let plain : is_plain c.args.command.now ≡ true = search rules in
    rw (← c.self.view_is) (took_plain c.args.nodes c.args.next s.state.node c.answer.new.state.node c.args.command.now c.in_ok-reply.reply plain c.in_ok-reply.ensures.ok
    s.up (down_state s.left) s.disks.count (g.D.Disk.state s.disks.journal.0) (g.D.Disk.state s.disks.checkpoints) c.answered.result
    c.if-not-self.false c.self.invariant c.answered.ensures.reply c.answered.ensures.sent c.answered.ensures.failed)

pub invariant_of-self-then-is_plain : goal.invariant_of-self-then-is_plain
invariant_of-self-then-is_plain g c =
    let s = c.self.inside in
    let plain : is_plain c.args.command.now ≡ true = search rules in
    plain_rests c.args.nodes c.args.next s.state.node c.answer.new.state.node c.args.command.now c.in_ok-reply.reply plain c.in_ok-reply.ensures.ok
    s.up (down_state s.left) s.disks.count (g.D.Disk.state s.disks.journal.0) (g.D.Disk.state s.disks.checkpoints) c.if-not-self.false c.self.invariant

pub returns-in_err-reply-clause-err : goal.returns-in_err-reply-clause-err
returns-in_err-reply-clause-err g c =
    let s = c.self.inside in
    let j = g.D.Disk.state s.disks.journal.0 in
    let k = g.D.Disk.state s.disks.checkpoints in
    rw (← c.self.view_is) (unchanged c.from_residual.result s.up s.state.node c.answer.new.state.node (down_state s.left) s.disks.count j j k k
    c.if-not-self.false c.in_err-reply.ensures.err (up_rests s.up s.state.node (down_state s.left) s.disks.count j k c.if-not-self.false c.self.invariant) (same_none j k))

pub returns-in_err-ended-clause-err : goal.returns-in_err-ended-clause-err
returns-in_err-ended-clause-err g c =
    let s = c.self.inside in
    let disks = c.act_own.new.disks in
    let e = c.in_err-ended.ensures in
    rw (← c.self.view_is) (unchanged c.from_residual-in_err-ended.result s.up s.state.node c.act_own.new.state.node (down_state s.left) disks.count
    (g.D.Disk.state s.disks.journal.0) (g.D.Disk.state disks.journal.0) (g.D.Disk.state s.disks.checkpoints) (g.D.Disk.state disks.checkpoints)
    c.if-not-self.false e.same e.left e.unused)

pub returns-clause-ok : goal.returns-clause-ok
returns-clause-ok g c =
    let s = c.self.inside in
    let disks = c.act_own.new.disks in
    let e = c.in_ok-ended.ensures in
    let t = c.told.ensures in
    rw (← c.self.view_is) (took_ended (λ n. row c.args.nodes c.args.next false n c.args.command.now) s.up c.told.new.up s.state.node c.act_own.new.state.node (down_state s.left) (down_state c.told.new.left) disks.count
    (g.D.Disk.state s.disks.journal.0) (g.D.Disk.state disks.journal.0) (g.D.Disk.state s.disks.checkpoints) (g.D.Disk.state disks.checkpoints)
    c.in_ok-ended.ended c.told.result c.if-not-self.false e.ends e.leaves e.runs t.follows t.rests t.failed e.unstored)
