-- The events of a call in which no disk's count rose.
use Rattle.std.specs.Prelude.{ℕ, ◌≡◌, Bool, true, false, None, Some, List, map, slice_get}
use Rattle.std.specs.List.{AllByRecursion, list_all}
use Rattle.rs_disk.specs.State.{State}
use Rattle.rs_io.specs.Fault.{CountRose}
use Rattle.fault_script.specs.declared.script.Part.{Part}
use Rattle.fault_script.specs.declared.script.Part.TheVariants.{Line, Par}
use Rattle.fault_script.specs.Script.{lines_in}
use Rattle.set_model.specs.declared.command.Command.{Command}
use Rattle.set_model.specs.declared.command.Event.{Event}
use Rattle.set_world.specs.World.{Set}
use Rattle.set_program.specs.Calls.{Call}
use Rattle.set_program.specs.Tasks.{is_script_alone}

-- the count of no disk rose
abbrev pub NoFaultCounted : {D : Type 0} → (D → State) → List D → List D → Type 0
NoFaultCounted {D} state old new =
    (place : ℕ) (before after : D) → slice_get old place ≡ Some before → slice_get new place ≡ Some after
    → ¬ CountRose (state before).faults (state after).faults

-- no store of the event failed, and nothing that was in doubt was kept
pub record NothingFailed (event : Event) : Type 0 where
  pub failed : event.failed ≡ None
  pub kept : event.kept ≡ false

-- the event of a line and its command, if nothing failed
abbrev pub event_of_line : ℕ × Command → Event
event_of_line line = record { line = line.0; command = line.1; failed = None; kept = false }

-- a part is a line, not a block
abbrev pub is_line : Part → Bool
is_line (Line number command) = true
is_line (Par threads) = false

-- Nothing failed in any event. If a script without blocks was played to its end, and no work comes after it,
-- the events are exactly its lines and their commands.
pub record GoesAsWritten {D : Type 0} (call : Call D) (status : ℕ) (set : Set D) : Type 0 where
  pub unfailed : AllByRecursion NothingFailed set.history
  pub lines : status ≡ 0 → is_script_alone call.task ≡ true → list_all is_line call.read.parts ≡ true
      → set.history ≡ map event_of_line (lines_in call.read.parts)
