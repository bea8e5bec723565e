use Rattle.visibility_point.proofs.Steps.{nothing_after}
use Rattle.visibility_point.proofs.laws.nothing_appears_after.Goals as goal

pub returns : goal.returns
returns c = nothing_after
