use Rattle.std.proofs.Common.{◌≤◌}
use Rattle.explore_tables.proofs.list_table.ListTable.find.Given as goal

abbrev pub invariant-loop-link : goal.invariant-loop-link
invariant-loop-link l = l.link ≤ l.self-inside.index

abbrev pub decreases-loop-link : goal.decreases-loop-link
decreases-loop-link l = l.link
