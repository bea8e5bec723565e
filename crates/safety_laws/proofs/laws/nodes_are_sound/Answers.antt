use Rattle.safety_laws.proofs.Ever.{nodes_sound_ever}
use Rattle.safety_laws.proofs.laws.nodes_are_sound.Goals as goal

pub returns : goal.returns
returns c = nodes_sound_ever
