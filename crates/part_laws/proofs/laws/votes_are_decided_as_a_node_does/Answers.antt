use Rattle.part_laws.proofs.RowLemmas.{votes_agree}
use Rattle.part_laws.proofs.laws.votes_are_decided_as_a_node_does.Goals as goal

pub returns : goal.returns
returns c = votes_agree
