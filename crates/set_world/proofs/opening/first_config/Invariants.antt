use Rattle.std.proofs.Common.{◌≡◌}
use Rattle.member_config.specs.Config.{members_from}
use Rattle.set_world.proofs.opening.first_config.Given as goal

abbrev pub invariant-loop-number : goal.invariant-loop-number
invariant-loop-number l = l.list ≡ members_from l.voters 0 l.number
