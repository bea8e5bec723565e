-- What a call is about: which task, which script, and which disks.
use Rattle.std.specs.Prelude.{ℕ, true, ◌≡◌, ◌≤◌, Option, None, Some, Ok, Err, List, [], String, string_bytes, length, map, IfSome}
use Rattle.std.specs.declared.alloc.Global.{Global}
use Rattle.fault_script.specs.declared.fault.ScriptFault.{ScriptFault}
use Rattle.fault_script.specs.declared.script.Script.{Script}
use Rattle.fault_script.specs.Script.{script}
use Rattle.chance_script.specs.Generated.{generated}
use Rattle.task_words.specs.declared.words.Task.{Task}
use Rattle.task_words.specs.declared.words.Task.TheVariants.{Run, Trace, Chaos, Linear, Sync, Watch}
use Rattle.task_words.specs.Tasks.{is_check, task_of}
use Rattle.set_program.specs.Tasks.{is_of_source}

-- The task that the words ask for, the script that is played for it, and the disks after the script's set was
-- opened on them. Where a call didn't get that far, these have no meaning.
pub record Call (D : Type 0) : Type 0 where
  pub task : Task
  pub read : Script
  pub opened : List D

-- ---- the task

-- the words ask for this
abbrev pub Asks : List (String Global) → Task → Type 0
Asks words task = task_of (map string_bytes words) ≡ Some task

-- they ask for a task whose script is the source's
abbrev pub AsksSource : List (String Global) → Type 0
AsksSource words = (task : Task) × Asks words task × (is_of_source task ≡ true)

-- they ask for a check of the source's bytes
abbrev pub AsksCheck : List (String Global) → Type 0
AsksCheck words = is_check (map string_bytes words) ≡ true

abbrev pub AsksNothing : List (String Global) → Type 0
AsksNothing words = task_of (map string_bytes words) ≡ None

-- ---- the script

-- the most bytes that a script may have
abbrev pub limit : ℕ
limit = 8388608

-- The bytes are what was read of a source. A source whose bytes are known was read to its end.
pub record WasRead (left rest : Option (List ℕ)) (bytes : List ℕ) : Type 0 where
  pub within : length bytes ≤ limit
  pub whole : IfSome left (λ told. (bytes ≡ told) × (rest ≡ Some []))

-- what was read is this script
abbrev pub IsRead : Option (List ℕ) → Option (List ℕ) → Script → Type 0
IsRead left rest read = (bytes : List ℕ) × WasRead left rest bytes × (script bytes ≡ Ok read)

-- what was read isn't a script, and this is its fault
abbrev pub IsFaulty : Option (List ℕ) → Option (List ℕ) → ScriptFault → Type 0
IsFaulty left rest fault = (bytes : List ℕ) × WasRead left rest bytes × (script bytes ≡ Err fault)

-- The script of a task: that of the source's bytes, or a generated one.
abbrev pub IsScriptOf : Task → Option (List ℕ) → Option (List ℕ) → Script → Type 0
IsScriptOf Run left rest read = IsRead left rest read
IsScriptOf Trace left rest read = IsRead left rest read
IsScriptOf (Linear linear) left rest read = IsRead left rest read
IsScriptOf (Watch watch) left rest read = IsRead left rest read
IsScriptOf (Sync node) left rest read = IsRead left rest read
IsScriptOf (Chaos seed events nodes) left rest read = script (generated seed events nodes) ≡ Ok read

-- the bytes are a script within the limit
abbrev pub IsReadable : List ℕ → Type 0
IsReadable bytes = (length bytes ≤ limit) × ((read : Script) × (script bytes ≡ Ok read))

-- the words ask for the call's task, and its script is the task's
pub record IsAsked {D : Type 0} (call : Call D) (words : List (String Global))
    (left rest : Option (List ℕ)) : Type 0 where
  pub asks : Asks words call.task
  pub script_is : IsScriptOf call.task left rest call.read
