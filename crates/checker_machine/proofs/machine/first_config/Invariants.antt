use Rattle.std.proofs.Common.{◌≡◌}
use Rattle.member_config.specs.Config.{members_from}
use Rattle.checker_machine.proofs.machine.first_config.Given as goal

abbrev pub invariant-loop-number : goal.invariant-loop-number
invariant-loop-number l = l.list ≡ members_from l.voters 0 l.number
