use Rattle.part_laws.proofs.RowLemmas.{accepts_agree}
use Rattle.part_laws.proofs.laws.answers_are_taken_as_a_node_does.Goals as goal

pub returns : goal.returns
returns c = accepts_agree
