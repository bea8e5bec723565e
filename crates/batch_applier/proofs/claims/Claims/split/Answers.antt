use Rattle.std.proofs.Common.{rules}
use Rattle.batch_applier.proofs.ClaimSteps.{splits}
use Rattle.batch_applier.proofs.claims.Claims.split.Goals as goal

pub split_seat-requires : goal.split_seat-requires
split_seat-requires g c = (search rules, search rules, splits _ _ _ _ _ c.requires.live)
