-- Which standings of a question numbers stand for, and how one leads to another.
use Rattle.std.specs.Prelude.{◌≡◌, ◌≤◌, ◌+◌, ◌*◌, ℕ, suc, Bool, List, [], ◌∷◌, Option, Some, length, slice_get, if◌then◌else◌}
use Rattle.explore_words.specs.declared.question.Act.{Act}
use Rattle.explore_words.specs.declared.question.Question.{Question}
use Rattle.question_laws.specs.Covered.{IsFit}
use Rattle.question_laws.specs.Doing.{act_done, world_after}
use Rattle.question_laws.specs.Following.{LeadsTo, MayDo, Standing, used_more}
use Rattle.question_laws.specs.Meeting.{Leaves}
use Rattle.explore_tables.specs.Numbers.{times}
use Rattle.explore_steps.specs.declared.doing.Doing.{Doing as Tried}
use Rattle.explore_steps.specs.Courses.{BeginsWith, left_after}
use Rattle.explore_steps.specs.Reaching.{IsReachedBefore}
use Rattle.explore_steps.specs.Tables.{AreNoted, Tables}

-- Cells stand for its world, so many wants are met, and these limited acts were done, each as often as it
-- stands there.
pub record StandFor (tables : Tables) (question : Question) (notes : Bool) (cells : List ℕ) (dead : Bool)
    (met : ℕ) (acts : List ℕ) (standing : Standing) : Type 0 where
  pub noted : AreNoted tables notes cells dead standing.world
  pub within : met ≤ length question.wants
  pub left : standing.left ≡ left_after question met
  pub used : (place : ℕ) → standing.used place ≡ times place acts

-- a row of numbers stands for one: the number of the acts, that of the wants with a bit for a dead message,
-- and the cells
pub record IsRowOf (tables : Tables) (lists : List (List ℕ)) (question : Question) (notes : Bool)
    (row : List ℕ) (standing : Standing) : Type 0 where
  pub used : ℕ
  pub acts : List ℕ
  pub met : ℕ
  pub dead : Bool
  pub cells : List ℕ
  pub row_is : row ≡ used ∷ (met * 2 + (if dead then 1 else 0)) ∷ cells
  pub acts_are : slice_get lists used ≡ Some acts
  pub stand : StandFor tables question notes cells dead met acts standing

-- It is fit to go on from, has wants left, and so many events may follow.
pub record MayGoOn (spare : ℕ) (question : Question) (standing : Standing) : Type 0 where
  pub fit : IsFit standing
  pub reached : IsReachedBefore spare question standing.world
  pub unmet : standing.left ≡ [] → ⊥

-- ---- how one leads to another

-- A doing leads from the one to the other. Only limited acts are counted.
pub record IsLed (tables : Tables) (question : Question) (old : Standing) (doing : Tried) (new : Standing)
    : Type 0 where
  pub act : Act
  pub message : Option ℕ
  pub begins : BeginsWith tables doing.first old.world message
  pub may : MayDo question old.world old.used (record { act = doing.act; message = message }) act
  pub fit : IsFit old
  pub room : IsReachedBefore (suc (length act.commands)) question old.world
  pub world : new.world ≡ world_after old.world (act_done old.world act message)
  pub used :
      (place limit : ℕ) (other : Act) → slice_get question.acts place ≡ Some other → other.limit ≡ Some limit
      → new.used place ≡ used_more old.used doing.act place
  pub left : Leaves old.world (act_done old.world act message) old.left new.left

-- these doings, one after another, lead to it
abbrev pub AreLed : Tables → Question → Standing → List Tried → Standing → Type 0
AreLed tables question old [] new = old ≡ new
AreLed tables question old (doing ∷ doings) new =
    (next : Standing) × IsLed tables question old doing next × AreLed tables question next doings new

-- an act that begins as the doing says leads there
abbrev pub LeadsBy : Tables → Question → Standing → Tried → Standing → Type 0
LeadsBy tables question old doing new =
    (leads : LeadsTo question old new) × (leads.doing.act ≡ doing.act)
    × BeginsWith tables doing.first old.world leads.doing.message
