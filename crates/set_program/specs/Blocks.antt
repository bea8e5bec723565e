-- What a block does: each of its lists is run with a pass of its own, and the passes are joined.
use Rattle.std.specs.Prelude.{ℕ, ◌≡◌, ◌<◌, ◌≤◌, ◌==◌, Bool, All, List, [], ◌∷◌, ◌++◌, Result, Ok, Err, Vec, length, map, take, if◌then◌else◌}
use Rattle.std.specs.List.{AllByRecursion, AllZip, Contains}
use Rattle.std.specs.List.Sorted.{IsNonDecreasingBy}
use Rattle.std.specs.declared.alloc.Global.{Global}
use mathlib.Core.List.{IsPrefix}
use Rattle.set_model.specs.declared.command.Command.{Command}
use Rattle.set_model.specs.declared.command.Event.{Event}
use Rattle.set_model.specs.declared.reply.Reply.{Reply}
use Rattle.set_model.specs.Limits.{IsRun}
use Rattle.set_model.specs.Run.{HISTORY_LIMIT, Sizes}
use Rattle.set_world.specs.declared.error.StepError.{StepError}
use Rattle.set_world.specs.declared.error.StepError.TheVariants.{HistoryFull, Memory}
use Rattle.fault_script.specs.Merge.{Interleaves, IsMerge}
use Rattle.shared_set.specs.Attempts.{IsInSome}
use Rattle.turn_board.specs.declared.view.View.{View}
use Rattle.turn_board.specs.History.{calls_by, names, times}
use Rattle.turn_board.specs.Views.{seen}
use Rattle.set_program.specs.Steps.{line_of, reply_to}

-- the events are of these lines, or of some first ones
abbrev pub AreOf : List (ℕ × Command) → List Event → Type 0
AreOf lines events = map line_of events ≡ lines

abbrev pub AreOfSome : List (ℕ × Command) → List Event → Type 0
AreOfSome lines events = IsPrefix (map line_of events) lines

-- the calls are the first ones of their pass among the turns
abbrev pub IsSeen : List (ℕ × Event) → ℕ × List Event → Type 0
IsSeen turns calls = IsPrefix calls.1 (calls_by calls.0 turns)

-- the place, the line and the reply of each turn of some passes, where these events stand before the turns
abbrev pub told_of : Sizes → (ℕ → Bool) → List Event → List (ℕ × Event) → List (ℕ × ℕ × Reply)
told_of sizes is_one before [] = []
told_of sizes is_one before (turn ∷ later) =
    if is_one turn.0
    then (length before, turn.1.line, reply_to sizes before turn.1)
    ∷ told_of sizes is_one (before ++ turn.1 ∷ []) later
    else told_of sizes is_one (before ++ turn.1 ∷ []) later

-- these are the places, lines and replies of a pass's calls among the turns after these events, one after
-- another
abbrev pub IsToldOf : Sizes → List Event → List (ℕ × Event) → ℕ × List Event → List (ℕ × ℕ × Reply) → Type 0
IsToldOf sizes before later calls told =
    told ≡ take (length calls.1) (told_of sizes (λ pass. calls.0 == pass) before later)

-- the turns that this pass has seen have no call of it
abbrev pub IsUnheard : {F : Type 0} → View Event F → ℕ × List Event → Type 0
IsUnheard v calls = calls_by calls.0 v.turns ≡ []

-- no place is below an earlier one
abbrev pub Rises : List (ℕ × ℕ × Reply) → Type 0
Rises told = IsNonDecreasingBy (λ t. t.0) told

-- ---- a block

-- One pass for each list was joined into v, which is then w, has its parts again, and has seen their calls
-- after all that it had seen. Those of each pass are `So` of its list, and no other in w has its number.
pub record RanBlock {F : Type 0} (So : List (ℕ × Command) → List Event → Type 0)
    (lists : List (List (ℕ × Command))) (v w : View Event F) : Type 0 where
  pub joined : List (ℕ × List Event)
  pub later : List (ℕ × Event)
  pub calls : w.calls ≡ v.calls ++ joined
  pub once : (pass : ℕ) → 0 < times pass (names joined) → times pass (names w.calls) ≡ 1
  pub lines : AllZip (λ list calls. So list calls.1) lists joined
  pub turns : w.turns ≡ v.turns ++ later
  pub unheard : All (IsUnheard v) joined
  pub seen : All (IsSeen later) joined
  pub parts : w.parts ≡ v.parts
  pub answers : IsPrefix v.answers w.answers

-- The places, lines and replies of all lists' calls, by rising place.
pub record TellsBlock {F : Type 0} (sizes : Sizes) (lists : List (List (ℕ × Command))) (v w : View Event F)
    (told : List (ℕ × ℕ × Reply)) : Type 0 where
  pub ran : RanBlock AreOf lists v w
  pub each : List (List (ℕ × ℕ × Reply))
  pub of_each : AllZip (IsToldOf sizes (seen v) ran.later) ran.joined each
  pub merged : IsMerge each told
  pub rises : Rises told

-- What passes tried without success before and after a block: those that were joined tried lines of its
-- lists.
abbrev pub TriedBlock : List (List (ℕ × Command)) → List (List (ℕ × Command)) → List (List (ℕ × Command))
    → Type 0
TriedBlock lists before after = (joined : List (List (ℕ × Command))) × (after ≡ before ++ joined)
    × AllByRecursion (AllByRecursion (IsInSome lists)) joined

-- no history is longer, unless the one before was
abbrev pub KeepsShort : {F : Type 0} → View Event F → View Event F → Type 0
KeepsShort v w = length (seen v) ≤ HISTORY_LIMIT → length (seen w) ≤ HISTORY_LIMIT

-- a defined run stays defined
abbrev pub KeepsRun : {F : Type 0} → Sizes → View Event F → View Event F → Type 0
KeepsRun sizes v w = IsRun sizes (seen v) → IsRun sizes (seen w)

abbrev pub EndsBlock : {F : Type 0} → Sizes → List (List (ℕ × Command)) → View Event F → View Event F
    → Result (Vec (ℕ × ℕ × Reply) Global) StepError → Type 0
EndsBlock sizes lists v w (Ok told) = TellsBlock sizes lists v w told.items
EndsBlock sizes lists v w (Err Memory) = RanBlock AreOfSome lists v w
EndsBlock sizes lists v w (Err HistoryFull) =
    RanBlock AreOfSome lists v w × (length (seen w) ≡ HISTORY_LIMIT)

-- ---- a list

-- the pass has made no call, and has seen none of its number
abbrev pub IsNew : {F : Type 0} → View Event F → Type 0
IsNew v = (pass : ℕ) × (v.calls ≡ (pass, []) ∷ []) × (calls_by pass v.turns ≡ [])

-- A new pass, which is then w, made such calls and has seen them after all that it had seen.
pub record RanList {F : Type 0} (So : List Event → Type 0) (v w : View Event F) : Type 0 where
  pub pass : ℕ
  pub events : List Event
  pub later : List (ℕ × Event)
  pub lines : So events
  pub calls : w.calls ≡ (pass, events) ∷ []
  pub begun : w.begun ≡ v.begun
  pub turns : w.turns ≡ v.turns ++ later
  pub unheard : IsUnheard v (pass, events)
  pub seen : IsSeen later (pass, events)
  pub parts : w.parts ≡ v.parts
  pub answers : w.answers ≡ v.answers

-- what a new pass tried without success, each a line of the list
abbrev pub TriedList : List (ℕ × Command) → List (List (ℕ × Command)) → Type 0
TriedList lines after = (own : List (ℕ × Command)) × (after ≡ own ∷ []) × AllByRecursion (Contains lines) own

-- and got these places, lines and replies
pub record TellsList {F : Type 0} (sizes : Sizes) (lines : List (ℕ × Command)) (v w : View Event F)
    (told : List (ℕ × ℕ × Reply)) : Type 0 where
  pub ran : RanList (AreOf lines) v w
  pub told_is : IsToldOf sizes (seen v) ran.later (ran.pass, ran.events) told

abbrev pub EndsList : {F : Type 0} → Sizes → List (ℕ × Command) → View Event F → View Event F
    → Result (Vec (ℕ × ℕ × Reply) Global) StepError → Type 0
EndsList sizes lines v w (Ok told) = TellsList sizes lines v w told.items
EndsList sizes lines v w (Err Memory) = RanList (AreOfSome lines) v w
EndsList sizes lines v w (Err HistoryFull) =
    RanList (AreOfSome lines) v w × (length (seen w) ≡ HISTORY_LIMIT)

-- ---- what both are told

-- both by rising place, or the first error, or memory ran out
abbrev pub Merges : Result (Vec (ℕ × ℕ × Reply) Global) StepError
    → Result (Vec (ℕ × ℕ × Reply) Global) StepError → Result (Vec (ℕ × ℕ × Reply) Global) StepError → Type 0
Merges (Ok one) (Ok other) (Ok all) =
    Interleaves one.items other.items all.items × Rises all.items
Merges (Ok one) (Ok other) (Err error) = error ≡ Memory
Merges (Ok one) (Err error) result = result ≡ Err error
Merges (Err error) other result = result ≡ Err error

-- ---- merging from the back

-- t is the last of a list, and nothing of another list is of a later event
abbrev pub EndsWith : List (ℕ × ℕ × Reply) → List (ℕ × ℕ × Reply) → List (ℕ × ℕ × Reply) → ℕ × ℕ × Reply
    → Type 0
EndsWith list front other t = (list ≡ front ++ t ∷ []) × All (λ u. u.0 ≤ t.0) other

-- a list isn't empty, and nothing of another list is of a later event than its last
abbrev pub EndsLater : List (ℕ × ℕ × Reply) → List (ℕ × ℕ × Reply) → Type 0
EndsLater list other = (0 < length list)
    × ((front : List (ℕ × ℕ × Reply)) (t : ℕ × ℕ × Reply) → list ≡ front ++ t ∷ []
    → All (λ u. u.0 ≤ t.0) other)
