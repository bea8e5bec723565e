use Rattle.std.proofs.Common.{◌≡◌}
use Rattle.explorer.specs.Replaying.{IsRunBegun}
use Rattle.explorer.specs.States.{IsLevel}
use Rattle.explorer.proofs.search.Search.levels.Given as goal

abbrev pub invariant-loop-level : goal.invariant-loop-level
invariant-loop-level l = (l.self.most ≡ l.initial.self.most) × IsLevel l.question l.depth l.level l.first l.self × IsRunBegun l.question l.run
