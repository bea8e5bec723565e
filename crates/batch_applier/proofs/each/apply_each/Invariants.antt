use Rattle.std.proofs.Common.{take}
use Rattle.batch_applier.specs.Parts.{IsApplied, EachOf}
use Rattle.batch_applier.proofs.each.apply_each.Given as goal

-- the entries so far are applied
abbrev pub invariant-loop-entry : goal.invariant-loop-entry
invariant-loop-entry l = EachOf IsApplied l.fn.shards l.shards (take l.entry-index l.entries)
