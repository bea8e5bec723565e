use Rattle.std.proofs.Common.{◌≡◌, ℕ, suc, List, Some, slice_get}
use Rattle.question_laws.specs.Following.{Standing}
use Rattle.explorer.specs.States.{AreStates, Grown, HasGrown, IsWithin, LeadsByActs}
use Rattle.explorer.proofs.search.Search.expand.Given as goal

-- what the first acts lead to is covered
abbrev pub invariant-loop-act : goal.invariant-loop-act
invariant-loop-act l =
    HasGrown l.initial.self l.self
    × ((done more : ℕ) (by : Standing) (standings : List Standing) → AreStates l.question (suc done) more l.initial.self standings → slice_get standings l.number ≡ Some by
    → IsWithin l.question l.initial.self.origins.items done (suc more) l.number by
    → Grown l.question (suc done) more l.self standings (LeadsByActs l.question by l.act))
