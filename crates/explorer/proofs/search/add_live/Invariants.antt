use Rattle.std.proofs.Common.{◌≡◌, ◌++◌, map, take}
use Rattle.explore_steps.specs.declared.doing.First.TheVariants.{Live}
use Rattle.explorer.proofs.search.add_live.Given as goal

abbrev pub invariant-loop-number : goal.invariant-loop-number
invariant-loop-number l = l.firsts.items ≡ l.initial.firsts.items ++ map Live (take l.number-index l.live)
