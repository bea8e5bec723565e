use Rattle.std.proofs.Common.{◌≡◌}
use Rattle.checks_sync.specs.Noops.{noops}
use Rattle.checks_sync.proofs.noops.noops.Given as goal

abbrev pub invariant-loop-before : goal.invariant-loop-before
invariant-loop-before l = l.entries.items ≡ noops l.before
