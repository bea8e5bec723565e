use Rattle.explore_laws.proofs.AlikeEvents.{dead_in_both, worlds_stay_alike}
use Rattle.explore_laws.proofs.laws.alike_worlds_stay_alike.Goals as goal

pub returns-clause-alike : goal.returns-clause-alike
returns-clause-alike c = worlds_stay_alike

pub returns-clause-dead : goal.returns-clause-dead
returns-clause-dead c = dead_in_both
