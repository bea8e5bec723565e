use Rattle.std.proofs.Common.{◌≡◌, ◌<◌, ◌≤◌, ◌+◌, ◌∷◌, List, arith, ap, drop, length, subst, take}
use Rattle.std.specs.Prelude.{slice_index_or}
use Rattle.std.proofs.lemmas.List.{drop_all, take_all}
use Rattle.set_model.specs.declared.command.Command.{Command}
use Rattle.explorer.specs.Replaying.{HasBegun}
use Rattle.explorer.proofs.Replays.{begun_first, begun_more, begun_reached, begun_whole, fits_there, next_done, next_left, of_beginning}
use Rattle.explorer.proofs.replay.Run.begin.Goals as goal

pub loop-command-init : goal.loop-command-init
loop-command-init c = begun_first c.args.question.now c.requires.0 _ c.requires.1 c.in_ok-open.ensures c.new.ensures.items

pub step-requires-clause-reached : goal.step-requires-clause-reached
step-requires-clause-reached c =
    let lines = c.args.question.now.beginning in
    begun_reached c.args.question.now c.loop-command.run (take c.loop-command.command-index lines) (drop c.loop-command.command-index lines) c.requires.1.put c.loop-command.invariant

pub step-requires-clause-fits : goal.step-requires-clause-fits
step-requires-clause-fits c =
    let question = c.args.question.now in
    let lines = question.beginning in
    let place = c.loop-command.command-index in
    let command = c.command-item.result in
    let same : c.as_slice-command-items.result.now ≡ lines = c.as_slice-command-items.ensures in
    let within : place < length lines = subst (λ (l : List Command). place < length l) same c.loop-command-test.true in
    let is : command ≡ slice_index_or lines place command = subst (λ (l : List Command). command ≡ slice_index_or l place command) same c.command-item.is in
    let of_set = of_beginning question place command c.requires.1.put within is in
    let has : HasBegun question c.loop-command.run (take place lines) (command ∷ drop (place + 1) lines) =
    subst (HasBegun question c.loop-command.run (take place lines)) (next_left lines place command within is) c.loop-command.invariant in
    fits_there question (length (drop (place + 1) lines)) c.loop-command.run.machine command c.in_ok-event_of.field-0 c.in_ok-event_of.ensures of_set has.reached

pub loop-command-preserved : goal.loop-command-preserved
loop-command-preserved c =
    let question = c.args.question.now in
    let lines = question.beginning in
    let place = c.loop-command.command-index in
    let command = c.command-item.result in
    let same : c.as_slice-command-items.result.now ≡ lines = c.as_slice-command-items.ensures in
    let within : place < length lines = subst (λ (l : List Command). place < length l) same c.loop-command-test.true in
    let is : command ≡ slice_index_or lines place command = subst (λ (l : List Command). command ≡ slice_index_or l place command) same c.command-item.is in
    let of_set = of_beginning question place command c.requires.1.put within is in
    let has : HasBegun question c.loop-command.run (take place lines) (command ∷ drop (place + 1) lines) =
    subst (HasBegun question c.loop-command.run (take place lines)) (next_left lines place command within is) c.loop-command.invariant in
    subst (λ (done : List Command). HasBegun question c.step.new.self done (drop (place + 1) lines)) (next_done lines place command within is)
    (begun_more question c.loop-command.run c.step.new.self command (take place lines) (drop (place + 1) lines) c.in_ok-event_of.field-0 has of_set
    c.in_ok-event_of.ensures c.in_ok-step.ensures)

pub returns : goal.returns
returns c =
    let question = c.args.question.now in
    let lines = question.beginning in
    let place = c.loop-command.command-index in
    let past : length lines ≤ place = omega (arith, ap length c.as_slice-command-items.ensures, c.loop-command-test.false) in
    begun_whole question c.loop-command.run
    (subst (λ (left : List Command). HasBegun question c.loop-command.run lines left) (drop_all place lines past)
    (subst (λ (done : List Command). HasBegun question c.loop-command.run done (drop place lines)) (take_all place lines past) c.loop-command.invariant))
