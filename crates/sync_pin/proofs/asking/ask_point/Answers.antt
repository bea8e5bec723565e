use Rattle.std.proofs.Common.{refl, subst, sym}
use Rattle.std.proofs.lemmas.Result.{err_from_is_err_and}
use Rattle.set_model.specs.Run.{Sizes}
use Rattle.safety_laws.specs.Bounds.{NumbersStaySmall}
use Rattle.change_stream.proofs.StepLemmas.{state_is_for}
use Rattle.sync_pin.proofs.AskLemmas.{point_broken, point_down, point_up}
use Rattle.sync_pin.proofs.asking.ask_point.Goals as goal

pub step-requires-clause-command : goal.step-requires-clause-command
step-requires-clause-command g c κs within = state_is_for c.args.node _ c.requires.node

pub returns-in_err-state-clause-asks : goal.returns-in_err-state-clause-asks
returns-in_err-state-clause-asks g c =
    let p = err_from_is_err_and c.from_residual.result c.from_residual.ensures.1 in
    rw (p.1, p.2) (point_broken (g.S.Stepper.sizes c.args.set.now) c.args.node (g.S.Stepper.known c.args.set.now) (g.S.Stepper.known c.step.new.set) c.in_err-state.field-0.0 c.in_err-state.ensures.err.0 c.in_err-state.ensures.err.1)

pub returns-in-Some-clause-asks : goal.returns-in-Some-clause-asks
returns-in-Some-clause-asks g c = (c.in_ok-state.state, c.in_ok-state.ensures.tells, sym c.in-Some.ensures)

pub returns-in-Some-clause-up : goal.returns-in-Some-clause-up
returns-in-Some-clause-up g c =
    let sizes = g.S.Stepper.sizes c.args.set.now in
    let new = g.S.Stepper.known c.step.new.set in
    let small : NumbersStaySmall sizes new = subst (λ (s : Sizes). NumbersStaySmall s new) c.step.ensures.sizes
    (c.numbers_stay_small.ensures _ _ c.step.ensures.defined.sizes_are c.step.ensures.defined.run) in
    point_up sizes c.args.node (g.S.Stepper.known c.args.set.now) new c.in_ok-state.state c.requires.node small c.in_ok-state.ensures.tells c.in-Some.point c.in-Some.ensures

pub returns-clause-asks : goal.returns-clause-asks
returns-clause-asks g c =
    let sizes = g.S.Stepper.sizes c.args.set.now in
    let new = g.S.Stepper.known c.step.new.set in
    let small : NumbersStaySmall sizes new = subst (λ (s : Sizes). NumbersStaySmall s new) c.step.ensures.sizes
    (c.numbers_stay_small.ensures _ _ c.step.ensures.defined.sizes_are c.step.ensures.defined.run) in
    (refl, point_down sizes c.args.node (g.S.Stepper.known c.args.set.now) new c.in_ok-state.state c.requires.node small c.in_ok-state.ensures.tells c.in-None.ensures)
