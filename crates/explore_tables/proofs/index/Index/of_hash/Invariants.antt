use Rattle.std.proofs.Common.{◌≤◌}
use Rattle.explore_tables.proofs.index.Index.of_hash.Given as goal

abbrev pub invariant-loop-link : goal.invariant-loop-link
invariant-loop-link l = l.link ≤ l.first

abbrev pub decreases-loop-link : goal.decreases-loop-link
decreases-loop-link l = l.link
