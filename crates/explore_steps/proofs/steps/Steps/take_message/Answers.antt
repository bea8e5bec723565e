use Rattle.std.proofs.Common.{◌∙◌, subst, sym}
use Rattle.std.proofs.lemmas.Option.{same_Some}
use Rattle.repl_msg.specs.declared.message.Message.{Message}
use Rattle.set_model.specs.Node.{Node}
use Rattle.explore_steps.specs.Causes.{taken}
use Rattle.explore_steps.specs.Keeping.{HasDeed}
use Rattle.explore_steps.specs.Stepping.{EventDoes}
use Rattle.explore_steps.specs.Tables.{tables_of}
use Rattle.explore_steps.proofs.Deeds.{deed_done}
use Rattle.explore_steps.proofs.Outcomes.{ok_both}
use Rattle.explore_steps.proofs.steps.Steps.take_message.Goals as goal

pub returns-clause-deed : goal.returns-clause-deed
returns-clause-deed c =
    let question = c.args.question.now in
    let at = c.get.result.now in
    let message = c.get-taken.result.now in
    let done = c.in_ok-sent.field-0 in
    ok_both c.add_deed.result _ _ c.add_deed.ensures.grown c.add_deed.ensures.placed
    (λ grown number placed sent there. subst (λ (m : Message). HasDeed (tables_of c.add_deed.new.self) question (taken m) c.args.node number) (same_Some message sent (sym c.get-taken.ensures ∙ there))
    (deed_done (tables_of c.add_deed.new.self) question (taken message) c.args.node at c.taken_done.new.node done.sent.items done.meets.items number
    (grown.tables.nodes c.args.node at c.get.ensures)
    (subst (λ (n : Node). EventDoes question (taken message) n c.taken_done.new.node done.sent.items done.meets.items) c.in_ok-after.ensures c.in_ok-sent.ensures) placed))
