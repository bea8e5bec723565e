use Rattle.std.proofs.Common.{◌≡◌}
use Rattle.set_model.specs.World.{nodes_from}
use Rattle.checker_machine.proofs.machine.Machine.open.Given as goal

abbrev pub invariant-loop-number : goal.invariant-loop-number
invariant-loop-number l = l.opened.items ≡ nodes_from l.first 0 l.number
