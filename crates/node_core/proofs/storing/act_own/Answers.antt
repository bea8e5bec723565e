use Rattle.std.proofs.Common.{◌∙◌, false, subst}
use Rattle.set_model.specs.Node.{Node}
use Rattle.set_model.specs.Rows.{row}
use Rattle.node_core.specs.OnDisks.{UpOnDisks}
use Rattle.node_core.proofs.CarryLemmas.{at_end, err_both, err_on, long_only, ok_on}
use Rattle.node_core.proofs.DoesLemmas.{MayPut, row_does, turn_kept}
use Rattle.node_core.proofs.PuttingLemmas.{rests_same, same_then}
use Rattle.node_core.proofs.storing.act_own.Goals as goal

pub carry_out-requires-clause-rests : goal.carry_out-requires-clause-rests
carry_out-requires-clause-rests g c =
    let old = c.args.state.now.node in
    let new = c.start.new.state.node in
    let plan = row c.args.nodes c.args.next false old c.args.command.now in
    let kept = turn_kept (MayPut c.args.command.now) 1 c.in_ok-turn.turn new plan old.records old.stable c.in_ok-turn.ensures.turn
    (row_does c.args.nodes c.args.next old c.args.command.now c.requires.own) in
    rests_same old new c.reserve.new.self.count (g.D.Disk.state c.reserve.new.self.journal.0) (g.D.Disk.state c.reserve.new.self.checkpoints)
    kept.0 kept.1 (c.reserve.ensures.rests old c.requires.rests)

pub returns-clause-same : goal.returns-clause-same
returns-clause-same g c =
    let old = c.args.state.now.node in
    let new = c.start.new.state.node in
    let plan = row c.args.nodes c.args.next false old c.args.command.now in
    err_both c.carry_out.result _ _ _ c.carry_out.ensures.long c.carry_out.ensures.same
    (λ long same. same ∙ c.start.ensures.quiet (long_only c.args.command.now c.in_ok-turn.turn new plan old.records old.stable c.in_ok-turn.ensures.turn
    (row_does c.args.nodes c.args.next old c.args.command.now c.requires.own) long))

pub returns-clause-left : goal.returns-clause-left
returns-clause-left g c =
    let old = c.args.state.now.node in
    let new = c.start.new.state.node in
    let plan = row c.args.nodes c.args.next false old c.args.command.now in
    let disks = c.carry_out.new.disks in
    err_both c.carry_out.result _ _ _ c.carry_out.ensures.long c.carry_out.ensures.left
    (λ long left. subst (λ (n : Node). UpOnDisks n disks.count (g.D.Disk.state disks.journal.0) (g.D.Disk.state disks.checkpoints))
    (c.start.ensures.quiet (long_only c.args.command.now c.in_ok-turn.turn new plan old.records old.stable c.in_ok-turn.ensures.turn
    (row_does c.args.nodes c.args.next old c.args.command.now c.requires.own) long)) left)

pub returns-clause-unused : goal.returns-clause-unused
returns-clause-unused g c =
    err_on c.carry_out.result _ _ c.carry_out.ensures.unused
    (λ later. same_then (g.D.Disk.state c.args.disks.now.journal.0) (g.D.Disk.state c.reserve.new.self.journal.0) (g.D.Disk.state c.carry_out.new.disks.journal.0)
    (g.D.Disk.state c.args.disks.now.checkpoints) (g.D.Disk.state c.reserve.new.self.checkpoints) (g.D.Disk.state c.carry_out.new.disks.checkpoints)
    c.reserve.ensures.same later)

pub returns-clause-unstored : goal.returns-clause-unstored
returns-clause-unstored g c =
    let old = c.args.state.now.node in
    ok_on c.carry_out.result _ _ c.carry_out.ensures.unstored
    (λ unused none. same_then (g.D.Disk.state c.args.disks.now.journal.0) (g.D.Disk.state c.reserve.new.self.journal.0) (g.D.Disk.state c.carry_out.new.disks.journal.0)
    (g.D.Disk.state c.args.disks.now.checkpoints) (g.D.Disk.state c.reserve.new.self.checkpoints) (g.D.Disk.state c.carry_out.new.disks.checkpoints)
    c.reserve.ensures.same (unused (at_end c.in_ok-turn.turn c.start.new.state.node (row c.args.nodes c.args.next false old c.args.command.now) c.in_ok-turn.ensures.turn none)))
