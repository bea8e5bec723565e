use Rattle.std.proofs.Common.{◌∙◌, ◌∷◌, [], List, Option, ap, suc, subst, sym, ℕ}
use Rattle.std.specs.Prelude.{OnOk}
use Rattle.set_model.specs.declared.command.Event.{Event}
use Rattle.explore_steps.proofs.Reach.{reached_after}
use Rattle.explorer.specs.Replaying.{Does, first_done}
use Rattle.explorer.proofs.Replays.{does_nothing, first_fits}
use Rattle.explorer.proofs.replay.Run.deliver.Goals as goal

pub step-requires-clause-reached : goal.step-requires-clause-reached
step-requires-clause-reached c = reached_after c.requires.0 (suc c.requires.1) c.args.self.now.machine c.requires.2.sizes c.requires.3

pub step-requires-clause-fits : goal.step-requires-clause-fits
step-requires-clause-fits c = first_fits c.requires.0 c.requires.1 c.in-Some.message c.args.self.now c.delivery.result c.delivery.ensures c.requires.3

pub returns-in-Some : goal.returns-in-Some
returns-in-Some c =
    subst (λ (events : List Event). OnOk c.step.result (Does c.args.self.now c.step.new.self events))
    (ap (λ (event : Event). event ∷ []) c.delivery.ensures ∙ sym (ap first_done c.in-Some.is)) c.step.ensures

pub returns-in-None : goal.returns-in-None
returns-in-None c = subst (λ (message : Option ℕ). Does c.args.self.now c.args.self.now (first_done message)) (sym c.in-None.is) (does_nothing c.args.self.now)
