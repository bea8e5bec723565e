-- Which events a script leads to, and what is put of their replies.
use Rattle.std.specs.Prelude.{ℕ, ◌≡◌, ◌≤◌, ◌++◌, ◌⊎◌, Option, Some, List, [], ◌∷◌, length, map, take, drop, slice_get}
use Rattle.std.specs.List.{AllByRecursion, flat_map}
use Rattle.std.specs.Io.KnownBytes.{Appends}
use Rattle.set_model.specs.declared.command.Command.{Command}
use Rattle.set_model.specs.declared.command.Event.{Event}
use Rattle.set_model.specs.declared.reply.Reply.{Reply}
use Rattle.set_model.specs.Run.{Sizes, run}
use Rattle.fault_script.specs.declared.script.Part.{Part}
use Rattle.fault_script.specs.declared.script.Part.TheVariants as parts
use Rattle.fault_script.specs.Merge.{IsMerge}
use Rattle.shared_set.specs.declared.attempt.Attempt.{Attempt}
use Rattle.shared_set.specs.Attempts.{IsInSome, done_in, undone_in}
use Rattle.transcript.specs.Replies.{line_text, text}
use Rattle.set_program.specs.Steps.{line_of}

-- ---- which events follow a script

-- the lines of a part in an order in which they may be played: a block's are a merge of its threads' lists
abbrev pub IsOrderOf : Part → List (ℕ × Command) → Type 0
IsOrderOf (parts.Line number command) lines = lines ≡ (number, command) ∷ []
IsOrderOf (parts.Par threads) lines = IsMerge threads lines

-- the same for several parts, one after another
abbrev pub AreOrdersOf : List Part → List (ℕ × Command) → Type 0
AreOrdersOf [] lines = lines ≡ []
AreOrdersOf (part ∷ later) lines = (own others : List (ℕ × Command)) × (lines ≡ own ++ others)
    × IsOrderOf part own × AreOrdersOf later others

-- the events are those of the parts' lines, part after part
abbrev pub Follows : List Part → List Event → Type 0
Follows parts events = AreOrdersOf parts (map line_of events)

-- This line comes next after those of the events, in an order in which all may be played.
abbrev pub ComesNext : List Part → List Event → ℕ → Command → Type 0
ComesNext parts events line command =
    (later : List (ℕ × Command)) × AreOrdersOf parts (map line_of events ++ (line, command) ∷ later)

-- After the earlier events a block comes. Of what was tried, the events are of some first of its lines, in
-- an order in which all may be played, and what wasn't done is among its lines.
pub record IsInBlock (whole : List Part) (earlier : List Event) (tried : List Attempt) : Type 0 where
  pub done : ℕ
  pub follows : Follows (take done whole) earlier
  pub threads : List (List (ℕ × Command))
  pub block : slice_get whole done ≡ Some (parts.Par threads)
  pub lines : List (ℕ × Command)
  pub merge : IsMerge threads lines
  pub front : map line_of (done_in tried) ≡ take (length (done_in tried)) lines
  pub undone : AllByRecursion (IsInSome threads) (undone_in tried)

-- in a block, or in the work after the whole script
abbrev pub IsInBlockOrAfter : List Part → List Event → List Attempt → Type 0
IsInBlockOrAfter whole earlier tried = IsInBlock whole earlier tried ⊎ Follows whole earlier

-- the events are those of some first lines, in an order in which all may be played
pub record FollowsInPart (parts : List Part) (events : List Event) : Type 0 where
  pub lines : List (ℕ × Command)
  pub follows : AreOrdersOf parts lines
  pub front : map line_of events ≡ take (length events) lines

-- ---- what was put

-- out of memory: a text is put whole or not at all
abbrev pub NoPrefix : ℕ → Type 0
NoPrefix cut = cut ≡ 0

-- where the sink fails, any prefix of the last text may be put
abbrev pub AnyPrefix : ℕ → Type 0
AnyPrefix cut = Unit {0}

-- what had to be put whole was put, and after it a prefix of the next text, of an allowed length
abbrev pub PutsPrefix : (ℕ → Type 0) → Option (List ℕ) → Option (List ℕ) → List ℕ → List ℕ → Type 0
PutsPrefix MayBe old new whole next = (cut : ℕ) × MayBe cut × Appends old new (whole ++ take cut next)

-- some first replies were put whole, and a prefix of the next one
pub record PutsReplies (MayBe : ℕ → Type 0) (old new : Option (List ℕ))
    (replies : List (ℕ × Reply)) : Type 0 where
  pub whole : ℕ
  pub put : PutsPrefix MayBe old new (flat_map line_text (take whole replies))
      (flat_map line_text (take 1 (drop whole replies)))

-- The events follow the parts to a point. Some first parts are played to their end, and their replies are
-- put. Of the one after them, a line or a block, some first lines may be played, in an order of its lines.
-- Its replies are put once all its lines are played, one after another as far as is said.
pub record StopsAtAPoint (sizes : Sizes) (MayBe : ℕ → Type 0) (parts : List Part) (old new : Option (List ℕ))
    (events : List Event) : Type 0 where
  pub done : ℕ
  pub earlier : List Event
  pub follows : Follows (take done parts) earlier
  pub later : List Event
  pub events_are : events ≡ earlier ++ later
  pub next : List (ℕ × Command)
  pub follows_next : AreOrdersOf (take 1 (drop done parts)) next
  pub front : map line_of later ≡ take (length later) next
  pub told : PutsReplies MayBe old new (run sizes events).replies
  pub least : length (run sizes earlier).replies ≤ told.whole
  pub waits : (map line_of later ≡ next) ⊎ Appends old new (text (run sizes earlier))
