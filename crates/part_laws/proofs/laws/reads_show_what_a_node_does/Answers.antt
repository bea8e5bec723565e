use Rattle.part_laws.proofs.RowLemmas.{reads_agree}
use Rattle.part_laws.proofs.laws.reads_show_what_a_node_does.Goals as goal

pub returns : goal.returns
returns c = reads_agree
