-- The two halves of a call: a script is read, and it is run.
use Rattle.std.specs.Prelude.{ℕ, ◌≡◌, ◌≢◌, ◌<◌, ◌⊎◌, Option, Result, Ok, Err, List, [], ◌∷◌, String, length, IfSome}
use Rattle.std.specs.Io.KnownBytes.{Appends, Keeps}
use Rattle.std.specs.declared.alloc.Global.{Global}
use Rattle.rs_disk.specs.State.{State}
use Rattle.member_config.specs.Config.{first_config}
use Rattle.fault_script.specs.declared.fault.ScriptFault.{ScriptFault}
use Rattle.fault_script.specs.declared.script.Script.{Script}
use Rattle.fault_script.specs.Script.{sizes_of}
use Rattle.transcript.specs.Faults.{fault_text}
use Rattle.set_world.specs.Disks.{AllBegin, Opens}
use Rattle.set_program.specs.declared.outcome.Left.{Left}
use Rattle.set_program.specs.declared.outcome.Left.TheVariants.{World, Parts}
use Rattle.set_program.specs.declared.stop.Stop.{Stop}
use Rattle.set_program.specs.declared.stop.Stop.TheVariants.{Memory, Usage, Script as NoScript, ReadFault, WriteFault, TooLong, DiskFault, CopyFault, Refused}
use Rattle.task_words.specs.declared.words.Task.{Task}
use Rattle.set_program.specs.Calls.{Asks, Call, IsFaulty, IsRead, IsScriptOf, limit}
use Rattle.set_program.specs.Headline.{EndsTask, EndsWithoutRun, IsOneOf, opening_error, status_of}
use Rattle.set_program.specs.Orders.{AnyPrefix, PutsPrefix}
use Rattle.set_program.specs.Parts.{DisksEnd}
use Rattle.set_program.specs.Syncing.{EndsWithMember}

-- the words ask for this task and its script, or nothing is run
abbrev pub Reads : List (String Global) → Option (List ℕ) → Option (List ℕ) → Option (List ℕ)
    → Option (List ℕ) → Result (Task × Script) Stop → Type 0
Reads words left rest old new (Ok (task, read)) = Asks words task × IsScriptOf task left rest read
Reads words left rest old new (Err stop) = EndsWithoutRun ⊥ words left rest old new (Err stop)

-- the source's script, or why there is none
abbrev pub ReadsSource : Option (List ℕ) → Option (List ℕ) → Option (List ℕ) → Option (List ℕ)
    → Result Script Stop → Type 0
ReadsSource left rest old new (Ok read) = IsRead left rest read
ReadsSource left rest old new (Err Usage) = ⊥
ReadsSource left rest old new (Err NoScript) =
    (fault : ScriptFault) × IsFaulty left rest fault × Appends old new (fault_text fault)
ReadsSource left rest old new (Err ReadFault) = Keeps old new
ReadsSource left rest old new (Err TooLong) = Keeps old new × IfSome left (λ bytes. limit < length bytes)
ReadsSource left rest old new (Err DiskFault) = ⊥
ReadsSource left rest old new (Err CopyFault) = ⊥
ReadsSource left rest old new (Err Refused) = ⊥
ReadsSource left rest old new (Err Memory) = Keeps old new
ReadsSource left rest old new (Err WriteFault) =
    (fault : ScriptFault) × IsFaulty left rest fault × PutsPrefix AnyPrefix old new [] (fault_text fault)

-- a set of the script's sizes was run, or it couldn't be opened; or it was closed, and a new member made
abbrev pub RunsScript : {D : Type 0} → (D → State) → Call D → List D → Option (List ℕ) → Option (List ℕ)
    → Result (Unit {0}) Stop → Left D → Type 0
RunsScript state call handed old new ended (World set) =
    (set.sizes ≡ sizes_of call.read) × EndsTask call.task call.read.parts old new ended set
RunsScript state call handed old new ended (Parts events disks) =
    ((events.items ≡ []) × Keeps old new × ((ended ≡ Err Memory) ⊎ (ended ≡ Err DiskFault)))
    ⊎ EndsWithMember state handed call old new ended events.items disks.items

-- and these disks are left
abbrev pub OpensScript : {D : Type 0} → (D → State) → Call D → List D → ℕ → Left D → Type 0
OpensScript state call handed status (World set) =
    Opens state set.sizes.nodes (Ok tt) handed call.opened
    × DisksEnd state call.task call.read.parts call.opened set (status ≡ 1)
OpensScript state call handed status (Parts events disks) =
    (IsOneOf (1 ∷ 7 ∷ []) status × Opens state call.read.nodes (Err (opening_error status)) handed disks.items
    × AllBegin state (first_config call.read.voters call.read.members) call.read.nodes disks.items)
    ⊎ ((status ≢ 7) × (events.items ≢ []))

-- the call of a script, on disks on which its set was opened
abbrev pub call_of : {D : Type 0} → Task → Script → List D → Call D
call_of task read opened = record { task = task; read = read; opened = opened }

-- the script is run, on some disks on which its set was opened
abbrev pub PlaysScript : {D : Type 0} → (D → State) → List D → Task → Script → Option (List ℕ)
    → Option (List ℕ) → Result (Unit {0}) Stop → Left D → Type 0
PlaysScript {D} state handed task read old new ended outcome =
    (opened : List D) × RunsScript state (call_of task read opened) handed old new ended outcome
    × OpensScript state (call_of task read opened) handed (status_of ended) outcome
