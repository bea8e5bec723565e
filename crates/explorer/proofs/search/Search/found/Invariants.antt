use Rattle.std.proofs.Common.{drop}
use Rattle.explore_steps.specs.Tables.{tables_of}
use Rattle.explorer.proofs.Found.{IsOnPath}
use Rattle.explorer.proofs.search.Search.found.Given as goal

abbrev pub invariant-loop-doing : goal.invariant-loop-doing
invariant-loop-doing l = IsOnPath (tables_of l.self.steps) l.question l.doing-index l.run (drop l.doing-index l.doing-items)
