use Rattle.std.proofs.Common.{◌≡◌, take}
use Rattle.node_core.proofs.done.Done.copy.Given as goal

abbrev pub invariant-loop-message : goal.invariant-loop-message
invariant-loop-message l = l.sent.items ≡ take l.message-index l.message-items
