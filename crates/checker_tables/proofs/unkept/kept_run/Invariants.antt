use Rattle.std.proofs.Common.{◌≤◌, ◌-◌, length}
use Rattle.checker_tables.proofs.unkept.kept_run.Given as goal

abbrev pub invariant-loop-count : goal.invariant-loop-count
invariant-loop-count l = (l.count ≤ length l.entries - l.place) × (l.count ≤ length l.kept - l.at)

abbrev pub decreases-loop-count : goal.decreases-loop-count
decreases-loop-count l = l.count
