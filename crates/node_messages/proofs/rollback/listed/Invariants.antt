use Rattle.std.proofs.Common.{◌≡◌, map}
use Rattle.rollback_core.specs.Lost.{lost_of}
use Rattle.node_messages.proofs.rollback.listed.Given as goal

abbrev pub invariant-loop-document : goal.invariant-loop-document
invariant-loop-document l = (l.lost ≡ map lost_of l.yielded)
