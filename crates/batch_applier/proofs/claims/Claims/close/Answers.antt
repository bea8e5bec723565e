use Rattle.std.proofs.Common.{◌∙◌}
use Rattle.batch_applier.proofs.ClaimSteps.{closes}
use Rattle.batch_applier.proofs.claims.Claims.close.Goals as goal

pub returns-clause-done : goal.returns-clause-done
returns-clause-done g c = (c.close_with.ensures.counts.1 ∙ c.args.self.counts.1, closes _ _ _ _ _ _ _ c.requires.claimer.1.0 c.requires.parts.0 c.requires.parts.1 c.close_with.ensures.values.2)
