use Rattle.explore_laws.proofs.AlikeEvents.{dead_stay_dead}
use Rattle.explore_laws.proofs.laws.dead_messages_stay_dead.Goals as goal

pub returns : goal.returns
returns c = dead_stay_dead
