use Rattle.std.proofs.Common.{◌≡◌, take}
use Rattle.set_model.specs.Fetching.{seen_after}
use Rattle.checker_node.proofs.fetching.seen_after.Given as goal

abbrev pub invariant-loop-entry : goal.invariant-loop-entry
invariant-loop-entry l = l.most ≡ seen_after l.seen (take l.entry-index l.entries)
