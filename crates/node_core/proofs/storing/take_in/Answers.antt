use Rattle.set_model.specs.Deliver.{deliver}
use Rattle.node_core.specs.Putting.{IsShortStore}
use Rattle.node_core.proofs.DeliverLemmas.{deliver_does}
use Rattle.node_core.proofs.CarryLemmas.{at_end, never_err, not_long, ok_on}
use Rattle.node_core.proofs.DoesLemmas.{turn_kept}
use Rattle.node_core.proofs.PuttingLemmas.{rests_same, same_then}
use Rattle.node_core.proofs.storing.take_in.Goals as goal

pub carry_out-requires-clause-rests : goal.carry_out-requires-clause-rests
carry_out-requires-clause-rests g c =
    let old = c.args.state.now.node in
    let new = c.take.new.state.node in
    let kept = turn_kept IsShortStore 2 c.in_ok-turn.turn new (deliver c.args.next old c.args.message.now) old.records old.stable c.in_ok-turn.ensures.turn
    (deliver_does c.args.next old c.args.message.now) in
    rests_same old new c.reserve.new.self.count (g.D.Disk.state c.reserve.new.self.journal.0) (g.D.Disk.state c.reserve.new.self.checkpoints)
    kept.0 kept.1 (c.reserve.ensures.rests old c.requires.rests)

pub returns-clause-same : goal.returns-clause-same
returns-clause-same g c =
    let old = c.args.state.now.node in
    never_err c.carry_out.result _ _ c.carry_out.ensures.long
    (not_long 1 c.in_ok-turn.turn c.take.new.state.node (deliver c.args.next old c.args.message.now) old.records old.stable c.in_ok-turn.ensures.turn
    (deliver_does c.args.next old c.args.message.now))

pub returns-clause-left : goal.returns-clause-left
returns-clause-left g c =
    let old = c.args.state.now.node in
    never_err c.carry_out.result _ _ c.carry_out.ensures.long
    (not_long 1 c.in_ok-turn.turn c.take.new.state.node (deliver c.args.next old c.args.message.now) old.records old.stable c.in_ok-turn.ensures.turn
    (deliver_does c.args.next old c.args.message.now))

pub returns-clause-unused : goal.returns-clause-unused
returns-clause-unused g c =
    let old = c.args.state.now.node in
    never_err c.carry_out.result _ _ c.carry_out.ensures.long
    (not_long 1 c.in_ok-turn.turn c.take.new.state.node (deliver c.args.next old c.args.message.now) old.records old.stable c.in_ok-turn.ensures.turn
    (deliver_does c.args.next old c.args.message.now))

pub returns-clause-unstored : goal.returns-clause-unstored
returns-clause-unstored g c =
    let old = c.args.state.now.node in
    ok_on c.carry_out.result _ _ c.carry_out.ensures.unstored
    (λ unused none. same_then (g.D.Disk.state c.args.disks.now.journal.0) (g.D.Disk.state c.reserve.new.self.journal.0) (g.D.Disk.state c.carry_out.new.disks.journal.0)
    (g.D.Disk.state c.args.disks.now.checkpoints) (g.D.Disk.state c.reserve.new.self.checkpoints) (g.D.Disk.state c.carry_out.new.disks.checkpoints)
    c.reserve.ensures.same (unused (at_end c.in_ok-turn.turn c.take.new.state.node (deliver c.args.next old c.args.message.now) c.in_ok-turn.ensures.turn none)))
