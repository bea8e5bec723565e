use Rattle.safety_laws.proofs.Ever.{leaders_keep_ever}
use Rattle.safety_laws.proofs.laws.leaders_keep.Goals as goal

pub returns : goal.returns
returns c = leaders_keep_ever
