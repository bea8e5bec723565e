use Rattle.part_laws.proofs.RowLemmas.{rollbacks_agree}
use Rattle.part_laws.proofs.laws.rollbacks_are_planned_as_a_node_does.Goals as goal

pub returns : goal.returns
returns c = rollbacks_agree
