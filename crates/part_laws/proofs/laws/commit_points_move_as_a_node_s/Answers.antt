use Rattle.part_laws.proofs.RowLemmas.{points_agree}
use Rattle.part_laws.proofs.laws.commit_points_move_as_a_node_s.Goals as goal

pub returns : goal.returns
returns c = points_agree
