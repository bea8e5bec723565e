use Rattle.published_laws.proofs.ReconfigHappens.{each_happens}
use Rattle.published_laws.proofs.laws.reconfig_actions_happen.Goals as goal

pub returns : goal.returns
returns c = each_happens
