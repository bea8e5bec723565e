use Rattle.std.proofs.Common.{◌≡◌, ◌∙◌, IsTrue, ap, inl, inr, rules, sym, true, false}
use Rattle.std.proofs.lemmas.Option.{same_Some}
use Rattle.set_model.specs.Node.{Node}
use Rattle.explore_laws.specs.Dead.{is_dead}
use Rattle.explore_steps.specs.Tables.{tables_of}
use Rattle.explore_steps.proofs.Reading.{in_read}
use Rattle.explore_steps.proofs.steps.Steps.absorbs.Goals as goal

pub returns-then-has-clause-same : goal.returns-then-has-clause-same
returns-then-has-clause-same c is_true node messages sent is there =
    let had : IsTrue c.has.result = search rules in
    inl (in_read (tables_of c.args.self.now) c.live.result.now messages c.args.message sent (c.live.ensures node messages is) (c.has.ensures had) there)

pub returns-else-has-clause-same : goal.returns-else-has-clause-same
returns-else-has-clause-same c is_true node messages sent is there =
    let dead : c.is_dead.result ≡ true = search rules in
    inr (sym (c.is_dead.ensures ∙ ap (λ (n : Node). is_dead n c.message.result.now) (c.node.ensures node messages is)
    ∙ ap (is_dead node) (same_Some c.message.result.now sent (sym c.message.ensures ∙ there))) ∙ dead)

pub returns-else-has-clause-other : goal.returns-else-has-clause-other
returns-else-has-clause-other c is_false node messages sent is there =
    let alive : c.is_dead.result ≡ false = search rules in
    sym (c.is_dead.ensures ∙ ap (λ (n : Node). is_dead n c.message.result.now) (c.node.ensures node messages is)
    ∙ ap (is_dead node) (same_Some c.message.result.now sent (sym c.message.ensures ∙ there))) ∙ alive
