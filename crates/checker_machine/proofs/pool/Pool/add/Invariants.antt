use Rattle.std.proofs.Common.{◌≡◌, ◌++◌}
use Rattle.checker_machine.proofs.pool.Pool.add.Given as goal

abbrev pub invariant-loop-message : goal.invariant-loop-message
invariant-loop-message l =
    (l.self ≡ l.initial.self ++ l.yielded) × (l.yielded ++ l.message-iterator.rest.items ≡ l.fn.sent.items)
