use Rattle.std.proofs.Common.{length}
use Rattle.set_program.proofs.StepLemmas.{SteppedUpTo}
use Rattle.set_program.proofs.steps.step_parts.Given as goal

abbrev pub decreases-loop-part : goal.decreases-loop-part
decreases-loop-part g l = length l.rest

abbrev pub invariant-loop-part : goal.invariant-loop-part
invariant-loop-part g l =
    SteppedUpTo g.D.Disk.state l.fn.parts l.rest l.fn.world l.world l.replies.items
