use Rattle.safety_laws.proofs.Ever.{configs_lawful_ever}
use Rattle.safety_laws.proofs.laws.configs_are_lawful.Goals as goal

pub returns : goal.returns
returns c = configs_lawful_ever
