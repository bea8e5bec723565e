use Rattle.std.proofs.Common.{subst}
use Rattle.set_model.specs.Run.{Sizes}
use Rattle.safety_laws.specs.Logs.{LogsRise}
use Rattle.change_stream.proofs.StepLemmas.{log_is_for}
use Rattle.sync_pin.proofs.AskLemmas.{log_oplog, log_some, log_told_so, log_up}
use Rattle.sync_pin.proofs.asking.ask_entries.Goals as goal

pub step-requires-clause-command : goal.step-requires-clause-command
step-requires-clause-command g c κs within = log_is_for c.args.node _ c.requires.node

pub unreachable-requires : goal.unreachable-requires
unreachable-requires g c =
    log_some (g.S.Stepper.sizes c.args.set.now) c.args.node (g.S.Stepper.known c.args.set.now) (g.S.Stepper.known c.step.new.set) c.requires.up c.in_ok-told.told c.in_ok-told.ensures.tells c.in_default.ensures.log

pub front-requires : goal.front-requires
front-requires g c =
    let sizes = g.S.Stepper.sizes c.args.set.now in
    let new = g.S.Stepper.known c.step.new.set in
    let rise : LogsRise sizes new = subst (λ (s : Sizes). LogsRise s new) c.step.ensures.sizes (c.logs_rise.ensures _ _ c.step.ensures.defined.sizes_are c.step.ensures.defined.run) in
    log_oplog sizes c.args.node (g.S.Stepper.known c.args.set.now) new c.requires.up c.in_ok-told.told c.in_ok-told.ensures.tells c.in-Some.log.items c.in-Some.ensures.log rise c.in-Some.ensures.lawful

pub returns-clause-ok : goal.returns-clause-ok
returns-clause-ok g c = (
  c.in-Some.log.items,
  log_told_so (g.S.Stepper.sizes c.args.set.now) c.args.node (g.S.Stepper.known c.args.set.now) (g.S.Stepper.known c.step.new.set) c.requires.up c.in_ok-told.told c.in_ok-told.ensures.tells
      c.in-Some.log.items c.in-Some.ensures.log,
  c.front.ensures.entries,
)

pub returns-clause-up : goal.returns-clause-up
returns-clause-up g c =
    log_up (g.S.Stepper.sizes c.args.set.now) c.args.node (g.S.Stepper.known c.args.set.now) (g.S.Stepper.known c.step.new.set) c.requires.up c.in_ok-told.told c.in_ok-told.ensures.tells
