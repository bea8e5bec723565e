use Rattle.part_laws.proofs.CommonLemmas.{common_points_are_last}
use Rattle.part_laws.proofs.laws.common_points_are_the_last_in_common.Goals as goal

pub returns : goal.returns
returns c = common_points_are_last
