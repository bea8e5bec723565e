use Rattle.part_laws.proofs.RowLemmas.{reconfigs_agree}
use Rattle.part_laws.proofs.laws.configurations_are_refused_as_a_node_does.Goals as goal

pub returns : goal.returns
returns c = reconfigs_agree
