-- A search through the runs of a question needs only one of the standings that are covered by it.
use Rattle.std.specs.Prelude.{◌≡◌, ◌≤◌, ◌<◌, ◌⊎◌, ℕ, suc, List, []}
use Rattle.rs_optime.specs.Membership.{In}
use Rattle.set_model.specs.declared.command.Event.{Event}
use Rattle.set_model.specs.Limits.{IsRun}
use Rattle.explore_words.specs.declared.question.Question.{Question}
use Rattle.explore_words.specs.declared.question.Want.{Want}
use Rattle.question_laws.specs.Covered.{IsCovered, IsFit}
use Rattle.question_laws.specs.Following.{Follows, LeadsIn, LeadsTo, LeavesOf, Meets, Standing, sizes_in, start}
use Rattle.question_laws.specs.Lawful.{HasCommands, IsLawful}

-- What an act leads to is covered where it was, or what an act of the other leads to covers it.
abbrev pub ActsAreCovered : Type 0
ActsAreCovered =
    (question : Question) (of new by : Standing) → IsLawful question → IsFit of → IsCovered question of by
    → LeadsTo question of new
    → IsFit new
    × (IsCovered question new by
    ⊎ ((next : Standing) × LeadsTo question by next × IsCovered question new next))

-- A table has a standing that covers what is reached by one act more, for each that it has of a level below
-- the depth.
pub record IsSearched (question : Question) (depth : ℕ) (table : ℕ → List Standing) : Type 0 where
  pub start : In (start question) (table 0)
  pub next :
      (level : ℕ) (by next : Standing) → level < depth → In by (table level) → LeadsTo question by next
      → (later : ℕ) × (found : Standing) × (later ≤ suc level) × In found (table later)
      × IsCovered question next found

-- So all that is reached with so many acts is covered by a standing that it has at that level or before.
abbrev pub SearchesAreWhole : Type 0
SearchesAreWhole =
    (question : Question) (depth acts : ℕ) (table : ℕ → List Standing) (new : Standing)
    → IsLawful question → IsSearched question depth table → acts ≤ depth
    → LeadsIn acts question (start question) new
    → (level : ℕ) × (found : Standing) × (level ≤ acts) × In found (table level)
    × IsCovered question new found

-- What follows a question is led from its start.
abbrev pub FollowersAreLed : Type 0
FollowersAreLed =
    (question : Question) (acts : ℕ) (events : List Event) (left : List Want)
    → Follows question acts events → LeavesOf question events left
    → (new : Standing) × LeadsIn acts question (start question) new × (new.left ≡ left)

-- Where no standing that it has at that level or before has all wants met, no run that follows the question
-- with so many acts meets them.
abbrev pub SearchesTell : Type 0
SearchesTell =
    (question : Question) (depth acts : ℕ) (table : ℕ → List Standing) (events : List Event)
    → IsLawful question → IsSearched question depth table → acts ≤ depth
    → ((level : ℕ) (found : Standing) → level ≤ acts → In found (table level) → found.left ≡ [] → ⊥)
    → Follows question acts events → Meets question events → ⊥

-- What follows a question is the run of a set.
abbrev pub FollowersAreRuns : Type 0
FollowersAreRuns =
    (question : Question) (acts : ℕ) (events : List Event) → HasCommands question
    → Follows question acts events → IsRun (sizes_in question) events
