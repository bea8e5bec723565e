use Rattle.std.proofs.Common.{subst}
use Rattle.set_model.specs.Node.{Node}
use Rattle.explore_steps.specs.Causes.{own}
use Rattle.explore_steps.specs.Stepping.{EventDoes}
use Rattle.explore_steps.specs.Tables.{tables_of}
use Rattle.explore_steps.proofs.Deeds.{deed_done}
use Rattle.explore_steps.proofs.Outcomes.{ok_both}
use Rattle.explore_steps.proofs.steps.Steps.do_command.Goals as goal

pub returns-clause-deed : goal.returns-clause-deed
returns-clause-deed c =
    let question = c.args.question.now in
    let cause = own c.args.command.now in
    let at = c.get.result.now in
    let done = c.in_ok-sent.field-0 in
    ok_both c.add_deed.result _ _ c.add_deed.ensures.grown c.add_deed.ensures.placed
    (λ grown number placed. deed_done (tables_of c.add_deed.new.self) question cause c.args.node at c.own_done.new.node done.sent.items done.meets.items number
    (grown.tables.nodes c.args.node at c.get.ensures)
    (subst (λ (n : Node). EventDoes question cause n c.own_done.new.node done.sent.items done.meets.items) c.in_ok-after.ensures c.in_ok-sent.ensures) placed)
