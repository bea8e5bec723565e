use Rattle.safety_laws.proofs.QuietSteps.{failed_law}
use Rattle.safety_laws.proofs.laws.failed_stores_stop.Goals as goal

pub returns : goal.returns
returns c = failed_law
