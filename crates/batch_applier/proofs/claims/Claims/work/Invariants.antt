use Rattle.std.proofs.Common.{◌≡◌, ◌⊎◌, length}
use Rattle.batch_applier.specs.Claims.{IsFree, HasDone}
use Rattle.batch_applier.proofs.ClaimSteps.{claims_left}
use Rattle.batch_applier.proofs.claims.Claims.work.Given as goal

-- the claimer has a job that is done, or none yet
abbrev pub invariant-loop-place : goal.invariant-loop-place
invariant-loop-place g l = (l.claimer.table_id ≡ l.fn.claimer.table_id) × (IsFree l.claimer.me ⊎ HasDone g.T.Job.done l.claimer.me)
    × (l.claimer.me.0.live ≡ l.fn.claimer.me.0.live) × (l.claimer.me.0.ended ≡ l.fn.claimer.me.0.ended)

abbrev pub decreases-loop-place : goal.decreases-loop-place
decreases-loop-place g l = claims_left (length l.self.table.shared.key.value.items) l.claimer.me.0.taken
