use Rattle.std.proofs.Common.{◌≡◌, take}
use Rattle.checker_machine.proofs.pool.Pool.copy.Given as goal

abbrev pub invariant-loop-message : goal.invariant-loop-message
invariant-loop-message l = l.messages.items ≡ take l.message-index l.message-items
