use Rattle.std.proofs.Common.{◌≡◌, ◌≤◌, ◌-◌, length, take}
use Rattle.checker_tables.specs.Journal.{unkept}
use Rattle.checker_tables.proofs.unkept.copy_unkept.Given as goal

abbrev pub invariant-loop-place : goal.invariant-loop-place
invariant-loop-place l =
    (l.found.items ≡ unkept (take l.place l.log.entries) l.kept.entries) × (length l.found.items ≤ l.most) × (l.place ≤ length l.log.entries)

abbrev pub decreases-loop-place : goal.decreases-loop-place
decreases-loop-place l = length l.log.entries - l.place
