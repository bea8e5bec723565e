use Rattle.published_laws.proofs.ReconfigRuns.{runs_are_reconfigs}
use Rattle.published_laws.proofs.laws.reconfig_behaviours.Goals as goal

pub returns : goal.returns
returns c = runs_are_reconfigs
