use Rattle.safety_laws.proofs.Ever.{logs_rise_ever}
use Rattle.safety_laws.proofs.laws.logs_rise.Goals as goal

pub returns : goal.returns
returns c = logs_rise_ever
