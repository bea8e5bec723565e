use Rattle.safety_laws.proofs.Ever.{common_points_greatest_ever}
use Rattle.safety_laws.proofs.laws.common_points_are_greatest.Goals as goal

pub returns : goal.returns
returns c = common_points_greatest_ever
