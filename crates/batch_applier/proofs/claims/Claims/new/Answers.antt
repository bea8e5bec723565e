use Rattle.batch_applier.proofs.ClaimSteps.{opens}
use Rattle.batch_applier.proofs.claims.Claims.new.Goals as goal

pub new-requires : goal.new-requires
new-requires g c = rw (c.of-about.ensures) (opens _ _ _ c.requires.few c.requires.ready)
