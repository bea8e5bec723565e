use Rattle.std.proofs.Common.{◌≡◌, ◌∙◌, ◌≤◌, true, sym, subst, ap}
use Rattle.std.specs.Prelude.{IfSome}
use Rattle.run_checker.specs.Checking.{set_of}
use Rattle.set_model.specs.declared.command.Event.{Event}
use Rattle.set_model.specs.Limits.{Fits, IsSoundWrite, is_for, write_of}
use Rattle.set_model.specs.World.{World}
use Rattle.play.specs.Play.{Played, run_of}
use Rattle.play.proofs.RunLemmas.{fits_now, played_more}
use Rattle.play.proofs.play.Play.play.Goals as goal

pub step-requires-clause-fits : goal.step-requires-clause-fits
step-requires-clause-fits c =
    let before : Played = record { sizes = set_of c.self.inside.sizes; first = c.self.inside.first; line = c.self.inside.line; lines = c.self.inside.script; events = c.self.inside.history } in
    let same : before ≡ c.args.self.now = c.self.view_is ∙ c.take_machine.ensures.set in
    let ours = subst (λ (p : Played). is_for p.sizes.nodes c.args.command ≡ true) (sym same) c.requires.command in
    let sound : IfSome (write_of c.args.command) IsSoundWrite = subst (λ (e : Event). IfSome (write_of e.command) IsSoundWrite) c.event_at-event.ensures c.recall_sound_write.ensures in
    let fit : Fits (run_of before).world c.event_at-event.result =
    subst (λ (e : Event). Fits (run_of before).world e) (sym c.event_at-event.ensures) (fits_now before c.self.invariant.0 c.numbers_stay_small.ensures c.args.command ours sound) in
    let machine_is : c.in_ok-machine.machine ≡ (run_of before).world = c.in_ok-machine.ensures.machine ∙ ap (λ (p : Played). (run_of p).world) (sym same) in
    subst (λ (w : World). Fits w c.event_at-event.result) (sym machine_is) fit

pub invariant_of-self-2 : goal.invariant_of-self-2
invariant_of-self-2 c =
    let before : Played = record { sizes = set_of c.self.inside.sizes; first = c.self.inside.first; line = c.self.inside.line; lines = c.self.inside.script; events = c.self.inside.history } in
    let same : before ≡ c.args.self.now = c.self.view_is ∙ c.take_machine.ensures.set in
    let ours = subst (λ (p : Played). is_for p.sizes.nodes c.args.command ≡ true) (sym same) c.requires.command in
    let sound : IfSome (write_of c.args.command) IsSoundWrite = subst (λ (e : Event). IfSome (write_of e.command) IsSoundWrite) c.event_at-event.ensures c.recall_sound_write.ensures in
    let fit : Fits (run_of before).world c.event_at-event.result =
    subst (λ (e : Event). Fits (run_of before).world e) (sym c.event_at-event.ensures) (fits_now before c.self.invariant.0 c.numbers_stay_small.ensures c.args.command ours sound) in
    let machine_is : c.in_ok-machine.machine ≡ (run_of before).world = c.in_ok-machine.ensures.machine ∙ ap (λ (p : Played). (run_of p).world) (sym same) in
    let room : before.line ≤ 200000 = subst (λ (p : Played). p.line ≤ 200000) (sym same) c.requires.line in
    played_more before c.self.invariant.0 room c.args.command c.event_at-event.result c.event_at-event.ensures fit c.args.line.now c.keep.new.script c.in_ok-keep.ensures.line c.keep.new.history c.in_ok-keep.ensures.event c.in_ok-machine.machine c.step.new.machine
    machine_is c.in_ok-step.ensures.world
