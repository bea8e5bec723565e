-- How far a search has gone.
use Rattle.std.specs.Prelude.{ℕ, List}
use Rattle.rs_optime.specs.Membership.{In}
use Rattle.explore_words.specs.declared.question.Question.{Question}
use Rattle.question_laws.specs.Covered.{IsCovered}
use Rattle.question_laws.specs.Following.{LeadsTo, Standing}
use Rattle.question_laws.specs.Laws.{IsSearched}

abbrev pub AreAmong : List Standing → List Standing → Type 0
AreAmong some all = (standing : Standing) → In standing some → In standing all

-- what an act leads to is covered by one of these standings
abbrev pub IsCoveredIn : Question → List Standing → Standing → Type 0
IsCoveredIn question all new = (found : Standing) × In found all × IsCovered question new found

-- what an act leads to from the first standings is covered by one of the others
abbrev pub AreExpanded : Question → List Standing → List Standing → Type 0
AreExpanded question done all =
    (by new : Standing) → In by done → LeadsTo question by new → IsCoveredIn question all new

-- All that at most so many acts lead to is covered by one of these standings.
pub record AreSearched (question : Question) (depth : ℕ) (all : List Standing) : Type 0 where
  pub table : ℕ → List Standing
  pub searched : IsSearched question depth table
  pub among : (level : ℕ) → AreAmong (table level) all
