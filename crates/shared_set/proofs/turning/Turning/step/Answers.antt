use Rattle.std.proofs.Common.{◌≡◌, ◌∙◌, ◌++◌, ◌∷◌, [], List, ap, drop, length, rules, subst, sym, true}
use Rattle.set_model.specs.Limits.{is_for}
use Rattle.set_world.specs.Went.{WentOn}
use Rattle.set_world.specs.World.{Set}
use Rattle.set_world.proofs.WentLemmas.{went_answer}
use Rattle.set_model.specs.declared.command.Event.{Event}
use Rattle.shared_set.specs.declared.attempts.Attempts.{Attempts}
use Rattle.shared_set.specs.Attempts.{WentBy, came_to}
use Rattle.shared_set.proofs.AttemptLemmas.{tried_more}
use Rattle.shared_set.proofs.turning.Turning.step.Goals as goal

pub invariant_of-self : goal.invariant_of-self
invariant_of-self g c =
    let named : is_for c.as_mut-world.result.now.sizes.nodes c.args.command.now ≡ true = search rules in (
      went_answer g.D.Disk.state c.self.inside.begun.value c.as_mut-world.result.now c.step-answer.new.self c.args.line c.args.command.now c.step-answer.result
          (subst (λ (s : Set g.row.D.Denot). WentOn g.D.Disk.state c.self.inside.begun.value s) (sym c.as_mut-world.ensures.value) c.self.invariant.0)
          c.step-answer.ensures.step c.step-answer.ensures.err c.step-answer.ensures.sizes c.step-answer.ensures.opened c.step-answer.ensures.whole c.step-answer.ensures.unused named c.recall_run.ensures.count,
      tried_more g.D.Disk.state c.self.inside.begun.value c.as_mut-world.result.now c.step-answer.new.self c.self.inside.tried.list c.then-tried.result.list c.args.line c.args.command.now c.step-answer.result
          (subst (λ (s : Set g.row.D.Denot). WentBy g.D.Disk.state c.self.inside.begun.value s c.self.inside.tried.list) (sym c.as_mut-world.ensures.value) c.self.invariant.1)
          c.step-answer.ensures.step c.step-answer.ensures.err c.step-answer.ensures.sizes named c.recall_run.ensures.count
          (ap (λ (t : Attempts). t.list) c.then-tried.ensures
          ∙ ap (λ (es : List Event). c.self.inside.tried.list ++ came_to (drop (length c.history-before.result.now) es) c.args.line c.args.command.now ∷ []) c.history.ensures
          ∙ ap (λ (es : List Event). c.self.inside.tried.list ++ came_to (drop (length es) c.step-answer.new.self.history) c.args.line c.args.command.now ∷ []) c.history-before.ensures),
    )
