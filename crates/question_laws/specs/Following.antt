-- Runs that follow a question: its beginning, and then acts that may be done.
use Rattle.std.specs.Prelude.{◌≡◌, ◌<◌, ◌+◌, ◌==◌, ℕ, zero, suc, List, [], ◌++◌, map, drop, length, Option, Some, IfSome, is_some, slice_get, if◌then◌else◌}
use Rattle.set_model.specs.declared.command.Event.{Event}
use Rattle.set_model.specs.Run.{Sizes, opening}
use Rattle.set_model.specs.World.{World}
use Rattle.explore_words.specs.declared.question.Act.{Act}
use Rattle.explore_words.specs.declared.question.Question.{Question}
use Rattle.explore_words.specs.declared.question.Want.{Want}
use Rattle.question_laws.specs.Doing.{act_done, event_of, world_after}
use Rattle.question_laws.specs.Meeting.{Leaves, unseen}

-- which act is done, and the number of the message that it begins with, where it begins with any
pub record Doing : Type 0 where
  pub act : ℕ
  pub message : Option ℕ

-- It may be done in a world, after each act was done so often: a message that it begins with was sent, and
-- its limit isn't reached.
pub record MayDo (asked : Question) (world : World) (used : ℕ → ℕ) (doing : Doing) (act : Act) : Type 0 where
  pub there : slice_get asked.acts doing.act ≡ Some act
  pub begins : is_some doing.message ≡ act.any_message
  pub sent : IfSome doing.message (λ message. message < length world.messages)
  pub limit : IfSome act.limit (λ limit. used doing.act < limit)

-- how often each act was done, with this one once more
abbrev pub used_more : (ℕ → ℕ) → ℕ → ℕ → ℕ
used_more used act place = if place == act then used place + 1 else used place

-- where a run stands: in a world, after each act was done so often, and with these wants left
pub record Standing : Type 0 where
  pub world : World
  pub used : ℕ → ℕ
  pub left : List Want

-- one act leads from the one to the other
pub record LeadsTo (question : Question) (old new : Standing) : Type 0 where
  pub doing : Doing
  pub act : Act
  pub may : MayDo question old.world old.used doing act
  pub world : new.world ≡ world_after old.world (act_done old.world act doing.message)
  pub used : new.used ≡ used_more old.used doing.act
  pub left : Leaves old.world (act_done old.world act doing.message) old.left new.left

-- so many acts do
abbrev pub LeadsIn : ℕ → Question → Standing → Standing → Type 0
LeadsIn zero question old new = old ≡ new
LeadsIn (suc acts) question old new =
    (next : Standing) × LeadsTo question old next × LeadsIn acts question next new

-- ---- from the beginning on

abbrev pub beginning : Question → List Event
beginning question = map event_of question.beginning

abbrev pub sizes_in : Question → Sizes
sizes_in question =
    record {
      nodes = question.sizes.nodes;
      voters = question.sizes.voters;
      members = question.sizes.members;
    }

abbrev pub begun : Question → World
begun question = world_after (opening (sizes_in question)).world (beginning question)

-- what is seen after the beginning is met
abbrev pub start : Question → Standing
start question =
    record {
      world = begun question;
      used = λ place. 0;
      left = unseen (begun question) question.wants;
    }

-- these events are those of so many acts from a world on
abbrev pub FollowsFrom : ℕ → Question → World → (ℕ → ℕ) → List Event → Type 0
FollowsFrom zero question world used events = events ≡ []
FollowsFrom (suc acts) question world used events =
    (doing : Doing) × (act : Act) × (rest : List Event) × MayDo question world used doing act
    × (events ≡ act_done world act doing.message ++ rest)
    × FollowsFrom acts question (world_after world (act_done world act doing.message))
    (used_more used doing.act) rest

-- these events follow the question with so many acts
abbrev pub Follows : Question → ℕ → List Event → Type 0
Follows question acts events =
    (rest : List Event) × (events ≡ beginning question ++ rest)
    × FollowsFrom acts question (begun question) (λ place. 0) rest

-- their run leaves these wants
abbrev pub LeavesOf : Question → List Event → List Want → Type 0
LeavesOf question events left =
    Leaves (begun question) (drop (length (beginning question)) events)
    (unseen (begun question) question.wants) left

abbrev pub Meets : Question → List Event → Type 0
Meets question events = LeavesOf question events []
