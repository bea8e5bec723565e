use Rattle.std.proofs.Common.{take}
use Rattle.batch_applier.specs.Parts.{joined, IsApplied}
use Rattle.batch_applier.proofs.part.Part.apply.Given as goal

-- the pieces so far are applied
abbrev pub invariant-loop-touches : goal.invariant-loop-touches
invariant-loop-touches l = IsApplied l.fn.shard l.shard (joined (take l.touches-index l.touches-items))
