use Rattle.explore_laws.proofs.AlikeEvents.{are_settled, stay_settled}
use Rattle.explore_laws.proofs.laws.nodes_are_settled.Goals as goal

pub returns-clause-step : goal.returns-clause-step
returns-clause-step c = stay_settled

pub returns-clause-runs : goal.returns-clause-runs
returns-clause-runs c = are_settled
