use Rattle.safety_laws.proofs.Ever.{leaders_had_what_is_before_ever}
use Rattle.safety_laws.proofs.laws.leaders_had_what_is_before.Goals as goal

pub returns : goal.returns
returns c = leaders_had_what_is_before_ever
