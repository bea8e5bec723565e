use Rattle.std.proofs.Common.{◌-◌, length}
use Rattle.checker_tables.specs.Journal.{AreKept}
use Rattle.checker_tables.proofs.unkept.pass_kept.Given as goal

abbrev pub invariant-loop-place : goal.invariant-loop-place
invariant-loop-place l = AreKept l.place l.log.entries l.kept.entries

abbrev pub decreases-loop-place : goal.decreases-loop-place
decreases-loop-place l = length l.log.entries - l.place
