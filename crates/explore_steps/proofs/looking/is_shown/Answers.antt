use Rattle.std.proofs.Common.{◌≡◌, IfOk, subst}
use Rattle.set_model.specs.Node.{Node}
use Rattle.question_laws.specs.Meeting.{begins}
use Rattle.explore_steps.specs.Causes.{outcome_at, own}
use Rattle.explore_steps.proofs.looking.is_shown.Goals as goal

pub returns : goal.returns
returns c = subst
    (λ (n : Node). IfOk c.does_show.result (λ shown. shown ≡ begins (outcome_at c.args.nodes (own c.args.command.now) n).reply c.args.text.now))
    c.in_ok-node.ensures c.does_show.ensures
