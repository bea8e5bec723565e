-- How a check ends, and what is put.
use Rattle.std.specs.Prelude.{◌≡◌, ◌<◌, ◌≤◌, ◌⊎◌, ℕ, List, [], length, take, Option, Some, IfSome, Result, Ok, Err}
use Rattle.std.specs.Io.KnownBytes.{Appends, Keeps}
use Rattle.run_checker.specs.declared.checking.CheckError.{CheckError}
use Rattle.run_checker.specs.Checking.{RulesOut, Shows, checked}
use Rattle.run_checker.specs.Verdicts.{count_text, no_trace_text}
use Rattle.trace_check.specs.declared.stop.CheckStop.{CheckStop}
use Rattle.trace_check.specs.declared.stop.CheckStop.TheVariants.{NoTrace, ReadFault, TooLong, WriteFault, Memory}

-- the most bytes that are checked
abbrev pub limit : ℕ
limit = 67108864

-- ---- what is said of bytes

-- they are a trace of this many events
abbrev pub IsCounted : ℕ → List ℕ → Type 0
IsCounted count bytes = (checked bytes ≡ Ok count) × Shows count bytes

-- they aren't a trace, for this reason
abbrev pub IsRefused : CheckError → List ℕ → Type 0
IsRefused why bytes = (checked bytes ≡ Err why) × RulesOut why bytes

-- a source whose bytes are known was read to its end, they are within the limit, and this holds of them
abbrev pub IfRead : Option (List ℕ) → Option (List ℕ) → (List ℕ → Type 0) → Type 0
IfRead left rest Holds = IfSome left (λ bytes. (length bytes ≤ limit) × (rest ≡ Some []) × Holds bytes)

-- ---- what is put

-- all of a text is put, or a prefix of it if the sink fails; nothing if memory runs out
abbrev pub PutsText : Option (List ℕ) → Option (List ℕ) → List ℕ → Result (Unit {0}) CheckStop → Type 0
PutsText old new text (Ok done) = Appends old new text
PutsText old new text (Err WriteFault) = (count : ℕ) × Appends old new (take count text)
PutsText old new text (Err Memory) = Keeps old new
PutsText old new text (Err NoTrace) = ⊥
PutsText old new text (Err ReadFault) = ⊥
PutsText old new text (Err TooLong) = ⊥

-- How a check ends, by what the source had left before and has left now, and what the sink held before and
-- holds now. If the sink fails, a prefix of the line is put; otherwise the line or nothing.
abbrev pub Ends : Option (List ℕ) → Option (List ℕ) → Option (List ℕ) → Option (List ℕ)
    → Result (Unit {0}) CheckStop → Type 0
Ends left rest old new (Ok done) =
    (count : ℕ) × IfRead left rest (IsCounted count) × Appends old new (count_text count)
Ends left rest old new (Err NoTrace) =
    (why : CheckError) × IfRead left rest (IsRefused why) × Appends old new (no_trace_text why)
Ends left rest old new (Err ReadFault) = Keeps old new
Ends left rest old new (Err TooLong) = Keeps old new × IfSome left (λ bytes. limit < length bytes)
Ends left rest old new (Err Memory) = Keeps old new
Ends left rest old new (Err WriteFault) =
    ((count : ℕ) × IfRead left rest (IsCounted count) × PutsText old new (count_text count) (Err WriteFault))
    ⊎ ((why : CheckError) × IfRead left rest (IsRefused why)
    × PutsText old new (no_trace_text why) (Err WriteFault))
