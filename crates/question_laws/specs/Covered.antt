-- When whatever may follow one standing may follow another, with as many acts.
use Rattle.std.specs.Prelude.{◌≡◌, ◌≤◌, ℕ, Bool, true, not, ◌==◌, ◌&&◌, length}
use Rattle.std.specs.List.{list_any}
use Rattle.explore_laws.specs.Alike.{AlikeWorlds}
use Rattle.explore_laws.specs.Dead.{has_dead}
use Rattle.explore_laws.specs.Settled.{AreSettled}
use Rattle.explore_words.specs.declared.question.Act.{Act}
use Rattle.explore_words.specs.declared.question.Question.{Question}
use Rattle.question_laws.specs.Following.{Standing}
use Rattle.question_laws.specs.Lawful.{AreLawful}
use Rattle.question_laws.specs.Meeting.{unseen}

-- lines follow the delivery of any message
abbrev pub goes_on : Act → Bool
goes_on act = act.any_message && not (length act.commands == 0)

-- What the standing is owed: nothing is in doubt, and what is seen is met.
pub record IsFit (of : Standing) : Type 0 where
  pub settled : AreSettled of.world
  pub wants : AreLawful of.left
  pub met : unseen of.world of.left ≡ of.left

-- The worlds are alike, the same wants are left, and no act was done more often. Where an act goes on after
-- the delivery of any message, the other has a dead message if the one has.
pub record IsCovered (question : Question) (of by : Standing) : Type 0 where
  pub worlds : AlikeWorlds of.world by.world
  pub left : of.left ≡ by.left
  pub used : (place : ℕ) → by.used place ≤ of.used place
  pub dead : list_any goes_on question.acts ≡ true → has_dead of.world ≡ true → has_dead by.world ≡ true
