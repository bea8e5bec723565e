use Rattle.std.proofs.Common.{rules}
use Rattle.batch_applier.proofs.ClaimSteps.{joins}
use Rattle.batch_applier.proofs.claims.Claims.join.Goals as goal

pub join_seat-requires : goal.join_seat-requires
join_seat-requires g c = (
  search rules,
  search rules,
  c.requires.other.1.1,
  search rules,
  joins _ _ _ _ _ _ _ c.requires.claimer.1.0 c.requires.other.1.0,
)
