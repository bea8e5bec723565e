use Rattle.std.proofs.Common.{ℕ, suc, List, take}
use Rattle.question_laws.specs.Following.{Standing}
use Rattle.explore_steps.specs.Tables.{tables_of}
use Rattle.explorer.specs.States.{GoesFrom, Grown, HasGrown, LeadsByOne}
use Rattle.explorer.proofs.search.Search.try_act.Given as goal

-- what the first ways lead to is covered
abbrev pub invariant-loop-first : goal.invariant-loop-first
invariant-loop-first l =
    HasGrown l.initial.self l.self
    × ((done more : ℕ) (by : Standing) (standings : List Standing) → GoesFrom l.question done more l.initial.self l.here by standings
    → Grown l.question (suc done) more l.self standings (LeadsByOne (tables_of l.initial.self.steps) l.question by l.place (take l.first-index l.here.firsts.items)))
