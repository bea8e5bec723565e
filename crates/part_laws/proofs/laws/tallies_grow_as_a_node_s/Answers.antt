use Rattle.part_laws.proofs.RowLemmas.{tallies_agree}
use Rattle.part_laws.proofs.laws.tallies_grow_as_a_node_s.Goals as goal

pub returns : goal.returns
returns c = tallies_agree
