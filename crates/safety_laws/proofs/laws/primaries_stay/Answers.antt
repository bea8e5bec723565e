use Rattle.safety_laws.proofs.Ever.{primaries_stay_ever}
use Rattle.safety_laws.proofs.laws.primaries_stay.Goals as goal

pub returns : goal.returns
returns c = primaries_stay_ever
