use Rattle.std.proofs.Common.{◌≡◌, ◌∙◌, ap, not, rules, sym, true}
use Rattle.std.proofs.lemmas.Option.{same_Some}
use Rattle.set_model.specs.Node.{Node}
use Rattle.explore_laws.specs.Dead.{is_dead}
use Rattle.explore_steps.specs.Tables.{tables_of}
use Rattle.explore_steps.proofs.Reading.{in_read}
use Rattle.explore_steps.proofs.steps.Steps.is_dead.Goals as goal

pub returns-then-not-has : goal.returns-then-not-has
returns-then-not-has c node messages sent is there alive =
    c.is_dead.ensures ∙ ap (λ (n : Node). is_dead n c.message.result.now) (c.node.ensures node messages is)
    ∙ ap (is_dead node) (same_Some c.message.result.now sent (sym c.message.ensures ∙ there))

pub returns-else-not-has : goal.returns-else-not-has
returns-else-not-has c node messages sent is there alive =
    let had : c.has.result ≡ true = search rules in
    ap not had ∙ sym (alive (in_read (tables_of c.args.self.now) c.live.result.now messages c.args.message sent (c.live.ensures node messages is) (c.has.ensures (search rules)) there))
