use Rattle.std.proofs.Common.{◌≡◌, ◌∙◌, true, sym, subst, ap}
use Rattle.run_checker.specs.Checking.{set_of}
use Rattle.set_model.specs.declared.command.Event.{Event}
use Rattle.set_model.specs.Limits.{Fits, is_for}
use Rattle.set_model.specs.World.{World, step}
use Rattle.play.specs.Play.{Played, event_at, run_of}
use Rattle.play.proofs.LookLemmas.{looks}
use Rattle.play.proofs.RunLemmas.{fits_now}
use Rattle.play.proofs.play.Play.show.Goals as goal

pub step-requires-clause-fits : goal.step-requires-clause-fits
step-requires-clause-fits c =
    let before : Played = record { sizes = set_of c.self.inside.sizes; first = c.self.inside.first; line = c.self.inside.line; lines = c.self.inside.script; events = c.self.inside.history } in
    let same : before ≡ c.args.self.now = c.self.view_is ∙ c.take_machine.ensures.set in
    let command = c.args.event.now.command in
    let ours = subst (λ (p : Played). is_for p.sizes.nodes command ≡ true) (sym same) c.requires.command in
    let event_is : c.args.event.now ≡ event_at before.line command = c.requires.event ∙ ap (λ (p : Played). event_at p.line command) (sym same) in
    let fit : Fits (run_of before).world c.args.event.now =
    subst (λ (e : Event). Fits (run_of before).world e) (sym event_is) (fits_now before c.self.invariant.0 c.numbers_stay_small.ensures command ours c.recall_sound_write.ensures) in
    let machine_is : c.in_ok-machine.machine ≡ (run_of before).world = c.in_ok-machine.ensures.machine ∙ ap (λ (p : Played). (run_of p).world) (sym same) in
    subst (λ (w : World). Fits w c.args.event.now) (sym machine_is) fit

pub invariant_of-self-2 : goal.invariant_of-self-2
invariant_of-self-2 c =
    let before : Played = record { sizes = set_of c.self.inside.sizes; first = c.self.inside.first; line = c.self.inside.line; lines = c.self.inside.script; events = c.self.inside.history } in
    let same : before ≡ c.args.self.now = c.self.view_is ∙ c.take_machine.ensures.set in
    let command = c.args.event.now.command in
    let ours = subst (λ (p : Played). is_for p.sizes.nodes command ≡ true) (sym same) c.requires.command in
    let event_is : c.args.event.now ≡ event_at before.line command = c.requires.event ∙ ap (λ (p : Played). event_at p.line command) (sym same) in
    let fit : Fits (run_of before).world c.args.event.now =
    subst (λ (e : Event). Fits (run_of before).world e) (sym event_is) (fits_now before c.self.invariant.0 c.numbers_stay_small.ensures command ours c.recall_sound_write.ensures) in
    let machine_is : c.in_ok-machine.machine ≡ (run_of before).world = c.in_ok-machine.ensures.machine ∙ ap (λ (p : Played). (run_of p).world) (sym same) in (
      c.self.invariant.0,
      c.in_ok-step.ensures.world ∙ ap (λ (w : World). (step w c.args.event.now).world) machine_is
          ∙ ap (λ (e : Event). (step (run_of before).world e).world) event_is ∙ looks (run_of before).world before.line command c.requires.reading,
    )

pub invariant_of-self-in_err-push_str : goal.invariant_of-self-in_err-push_str
invariant_of-self-in_err-push_str c =
    let before : Played = record { sizes = set_of c.self.inside.sizes; first = c.self.inside.first; line = c.self.inside.line; lines = c.self.inside.script; events = c.self.inside.history } in
    let same : before ≡ c.args.self.now = c.self.view_is ∙ c.take_machine.ensures.set in
    let command = c.args.event.now.command in
    let ours = subst (λ (p : Played). is_for p.sizes.nodes command ≡ true) (sym same) c.requires.command in
    let event_is : c.args.event.now ≡ event_at before.line command = c.requires.event ∙ ap (λ (p : Played). event_at p.line command) (sym same) in
    let fit : Fits (run_of before).world c.args.event.now =
    subst (λ (e : Event). Fits (run_of before).world e) (sym event_is) (fits_now before c.self.invariant.0 c.numbers_stay_small.ensures command ours c.recall_sound_write.ensures) in
    let machine_is : c.in_ok-machine.machine ≡ (run_of before).world = c.in_ok-machine.ensures.machine ∙ ap (λ (p : Played). (run_of p).world) (sym same) in (
      c.self.invariant.0,
      c.in_ok-step.ensures.world ∙ ap (λ (w : World). (step w c.args.event.now).world) machine_is
          ∙ ap (λ (e : Event). (step (run_of before).world e).world) event_is ∙ looks (run_of before).world before.line command c.requires.reading,
    )
