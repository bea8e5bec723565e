use Rattle.std.proofs.Common.{◌≡◌}
use Rattle.checks_shared.proofs.sessions.written.Given as goal

abbrev pub invariant-loop-part : goal.invariant-loop-part
invariant-loop-part g l = l.world.sizes ≡ l.initial.world.sizes
