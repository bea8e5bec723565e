use Rattle.explore_tables.proofs.Tables.{keeps}
use Rattle.explore_steps.proofs.Keeping.{grows_tables}
use Rattle.explore_steps.proofs.Outcomes.{ok_always}
use Rattle.explore_steps.proofs.steps.Steps.place_message.Goals as goal

pub returns-clause-grown : goal.returns-clause-grown
returns-clause-grown c =
    let own = c.args.self.now in
    ok_always c.place.result (grows_tables own own.nodes c.place.new.self own.lists own.cells (λ number value is. is)
    (keeps c.args.message own.messages c.place.new.self c.place.ensures.grown) (λ number value is. is) (λ number value is. is))
