use Rattle.std.proofs.Common.{◌≡◌}
use Rattle.checks_shared.proofs.failover.ask_each.Given as goal

abbrev pub invariant-loop-node : goal.invariant-loop-node
invariant-loop-node g l = l.world.sizes ≡ l.initial.world.sizes
