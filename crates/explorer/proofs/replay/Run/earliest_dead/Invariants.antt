use Rattle.std.proofs.Common.{◌≡◌, false, take}
use Rattle.std.specs.List.{list_any}
use Rattle.explore_laws.specs.Dead.{is_dead_in}
use Rattle.explorer.proofs.replay.Run.earliest_dead.Given as goal

abbrev pub invariant-loop-number : goal.invariant-loop-number
invariant-loop-number l = list_any (is_dead_in l.self.machine) (take l.number l.self.machine.messages) ≡ false
