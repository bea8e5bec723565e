use Rattle.safety_laws.proofs.Ever.{next_optimes_are_last_ever}
use Rattle.safety_laws.proofs.laws.next_optimes_are_last.Goals as goal

pub returns : goal.returns
returns c = next_optimes_are_last_ever
