use Rattle.std.proofs.Common.{◌≡◌}
use Rattle.checks_sync.proofs.documents.play.Given as goal

abbrev pub invariant-loop-part : goal.invariant-loop-part
invariant-loop-part g l = l.world.sizes ≡ l.initial.world.sizes
