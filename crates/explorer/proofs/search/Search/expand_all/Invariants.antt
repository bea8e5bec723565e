use Rattle.std.proofs.Common.{ℕ, suc, List}
use Rattle.question_laws.specs.Following.{Standing}
use Rattle.explorer.specs.States.{AreStates, Grown, HasGrown, IsNext}
use Rattle.explorer.proofs.search.Search.expand_all.Given as goal

-- what acts lead to from the first of them is covered
abbrev pub invariant-loop-number : goal.invariant-loop-number
invariant-loop-number l =
    HasGrown l.initial.self l.self
    × ((done more : ℕ) (standings : List Standing) → AreStates l.question done (suc more) l.initial.self standings
    → Grown l.question (suc done) more l.self standings (IsNext l.question standings l.first l.number))
