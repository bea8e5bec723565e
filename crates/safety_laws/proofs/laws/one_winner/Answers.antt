use Rattle.safety_laws.proofs.Ever.{one_winner_ever}
use Rattle.safety_laws.proofs.laws.one_winner.Goals as goal

pub returns : goal.returns
returns c = one_winner_ever
