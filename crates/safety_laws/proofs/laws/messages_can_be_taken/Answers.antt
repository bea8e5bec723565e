use Rattle.safety_laws.proofs.Ever.{can_be_taken_ever}
use Rattle.safety_laws.proofs.laws.messages_can_be_taken.Goals as goal

pub returns : goal.returns
returns c = can_be_taken_ever
