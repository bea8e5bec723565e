use Rattle.std.proofs.Common.{◌≡◌, ◌<◌, ◌≤◌, ◌+◌, ◌∷◌, ◌∙◌, List, arith, ap, drop, length, subst, sym}
use Rattle.std.specs.Prelude.{slice_index_or}
use Rattle.std.proofs.lemmas.List.{drop_all}
use Rattle.set_model.specs.declared.command.Command.{Command}
use Rattle.explorer.specs.Replaying.{HasDone}
use Rattle.explorer.proofs.Replays.{lines_end, lines_first, lines_fit, lines_more, lines_reached, lines_stop, next_left}
use Rattle.explorer.proofs.replay.Run.lines.Goals as goal

pub loop-command-init : goal.loop-command-init
loop-command-init c = lines_first c.args.before c.args.self.now c.args.lines.now c.requires.0 c.requires.1 c.requires.2 c.requires.3

pub returns-then-not-is_done : goal.returns-then-not-is_done
returns-then-not-is_done c =
    let lines = c.args.lines.now in
    let place = c.loop-command.command-index in
    let command = c.command-item.result in
    let same : c.as_slice-command-items.result.now ≡ lines = c.as_slice-command-items.ensures in
    let within : place < length lines = subst (λ (l : List Command). place < length l) same c.loop-command-test.true in
    let is : command ≡ slice_index_or lines place command = subst (λ (l : List Command). command ≡ slice_index_or l place command) same c.command-item.is in
    let has : HasDone c.args.before c.args.self.now c.loop-command.self lines (command ∷ drop (place + 1) lines) =
    subst (HasDone c.args.before c.args.self.now c.loop-command.self lines) (next_left lines place command within is) c.loop-command.invariant in
    lines_stop c.args.before c.args.self.now c.loop-command.self lines command (drop (place + 1) lines) has
    (sym c.is_done.ensures ∙ c.if-not-is_done.true)

pub step-requires-clause-reached : goal.step-requires-clause-reached
step-requires-clause-reached c = lines_reached c.args.before c.args.self.now c.loop-command.self c.args.lines.now (drop c.loop-command.command-index c.args.lines.now) c.loop-command.invariant

pub step-requires-clause-fits : goal.step-requires-clause-fits
step-requires-clause-fits c =
    let lines = c.args.lines.now in
    let place = c.loop-command.command-index in
    let command = c.command-item.result in
    let same : c.as_slice-command-items.result.now ≡ lines = c.as_slice-command-items.ensures in
    let within : place < length lines = subst (λ (l : List Command). place < length l) same c.loop-command-test.true in
    let is : command ≡ slice_index_or lines place command = subst (λ (l : List Command). command ≡ slice_index_or l place command) same c.command-item.is in
    let has : HasDone c.args.before c.args.self.now c.loop-command.self lines (command ∷ drop (place + 1) lines) =
    subst (HasDone c.args.before c.args.self.now c.loop-command.self lines) (next_left lines place command within is) c.loop-command.invariant in
    lines_fit c.args.before c.args.self.now c.loop-command.self lines command (drop (place + 1) lines) has
    c.in_ok-event_of.field-0 c.in_ok-event_of.ensures

pub loop-command-preserved : goal.loop-command-preserved
loop-command-preserved c =
    let lines = c.args.lines.now in
    let place = c.loop-command.command-index in
    let command = c.command-item.result in
    let same : c.as_slice-command-items.result.now ≡ lines = c.as_slice-command-items.ensures in
    let within : place < length lines = subst (λ (l : List Command). place < length l) same c.loop-command-test.true in
    let is : command ≡ slice_index_or lines place command = subst (λ (l : List Command). command ≡ slice_index_or l place command) same c.command-item.is in
    let has : HasDone c.args.before c.args.self.now c.loop-command.self lines (command ∷ drop (place + 1) lines) =
    subst (HasDone c.args.before c.args.self.now c.loop-command.self lines) (next_left lines place command within is) c.loop-command.invariant in
    lines_more c.args.before c.args.self.now c.loop-command.self lines command (drop (place + 1) lines) has
    c.step.new.self c.in_ok-event_of.field-0 c.in_ok-event_of.ensures (sym c.is_done.ensures ∙ c.if-not-is_done.false) c.in_ok-step.ensures

pub returns : goal.returns
returns c =
    let lines = c.args.lines.now in
    let past : length lines ≤ c.loop-command.command-index = omega (arith, ap length c.as_slice-command-items.ensures, c.loop-command-test.false) in
    lines_end c.args.before c.args.self.now c.loop-command.self lines
    (subst (HasDone c.args.before c.args.self.now c.loop-command.self lines) (drop_all c.loop-command.command-index lines past) c.loop-command.invariant)
