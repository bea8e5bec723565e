use Rattle.published_laws.proofs.SetRuns.{sets_are_reconfigs}
use Rattle.published_laws.proofs.laws.sets_are_reconfigs.Goals as goal

pub returns : goal.returns
returns c = sets_are_reconfigs
