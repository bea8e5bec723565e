use Rattle.std.proofs.Common.{take}
use Rattle.batch_applier.specs.Parts.{IsApplied}
use Rattle.batch_applier.proofs.touches.Touches.apply.Given as goal

-- the entries so far are applied
abbrev pub invariant-loop-touch : goal.invariant-loop-touch
invariant-loop-touch l = IsApplied l.fn.shard l.shard (take l.touch-index l.touch-items)
