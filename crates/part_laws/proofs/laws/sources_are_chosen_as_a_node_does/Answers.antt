use Rattle.part_laws.proofs.RowLemmas.{sources_agree}
use Rattle.part_laws.proofs.laws.sources_are_chosen_as_a_node_does.Goals as goal

pub returns : goal.returns
returns c = sources_agree
