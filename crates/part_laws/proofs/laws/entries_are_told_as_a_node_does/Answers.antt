use Rattle.part_laws.proofs.RowLemmas.{fetches_agree}
use Rattle.part_laws.proofs.laws.entries_are_told_as_a_node_does.Goals as goal

pub returns : goal.returns
returns c = fetches_agree
