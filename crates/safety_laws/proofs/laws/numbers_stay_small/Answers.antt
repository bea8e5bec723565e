use Rattle.safety_laws.proofs.Ever.{numbers_small_ever}
use Rattle.safety_laws.proofs.laws.numbers_stay_small.Goals as goal

pub returns : goal.returns
returns c = numbers_small_ever
