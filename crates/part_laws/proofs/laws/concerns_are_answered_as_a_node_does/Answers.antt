use Rattle.part_laws.proofs.RowLemmas.{concerns_agree}
use Rattle.part_laws.proofs.laws.concerns_are_answered_as_a_node_does.Goals as goal

pub returns : goal.returns
returns c = concerns_agree
