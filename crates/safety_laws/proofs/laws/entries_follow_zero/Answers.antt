use Rattle.safety_laws.proofs.Ever.{entries_follow_zero_ever}
use Rattle.safety_laws.proofs.laws.entries_follow_zero.Goals as goal

pub returns : goal.returns
returns c = entries_follow_zero_ever
