use Rattle.safety_laws.proofs.Ever.{leaders_add_their_own_ever}
use Rattle.safety_laws.proofs.laws.leaders_add_their_own.Goals as goal

pub returns : goal.returns
returns c = leaders_add_their_own_ever
