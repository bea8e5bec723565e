-- What a sync does after a script: a node is asked, the set is closed, and a new member is made.
use Rattle.std.specs.Prelude.{◌≡◌, ◌≤◌, ◌<◌, ◌+◌, ◌*◌, ℕ, All, List, Option, Result, Ok, Err, Some, Vec, drop, slice_get}
use Rattle.std.specs.List.{AllByRecursion}
use Rattle.std.specs.Io.KnownBytes.{Appends}
use Rattle.std.specs.declared.alloc.Global.{Global}
use Rattle.rs_disk.specs.State.{State}
use Rattle.rs_io.specs.Fault.{CountRose}
use Rattle.fault_script.specs.declared.script.Part.{Part}
use Rattle.fault_script.specs.Script.{sizes_of}
use Rattle.set_model.specs.declared.command.Event.{Event}
use Rattle.set_model.specs.Run.{Sizes, run}
use Rattle.set_model.specs.Safety.{Safe}
use Rattle.set_world.specs.Disks.{Opens}
use Rattle.set_world.specs.World.{Set}
use Rattle.sync_member.specs.Adding.{AddsMember}
use Rattle.sync_pin.specs.Asking.{Pins}
use Rattle.sync_words.specs.declared.stop.SyncStop.{SyncStop}
use Rattle.transcript.specs.Replies.{text}
use Rattle.set_program.specs.declared.outcome.Left.{Left}
use Rattle.set_program.specs.declared.outcome.Left.TheVariants.{World, Parts}
use Rattle.set_program.specs.declared.stop.Stop.{Stop}
use Rattle.task_words.specs.declared.words.Task.{Task}
use Rattle.task_words.specs.declared.words.Task.TheVariants.{Sync}
use Rattle.set_program.specs.Calls.{Call}
use Rattle.set_program.specs.Causes.{of_sync}
use Rattle.set_program.specs.Counts.{FailuresCount, FaultsAreArmed, FaultsHaveCauses, OrdersCount}
use Rattle.set_program.specs.Disks.{DisksPlayed, IsUnarmed}
use Rattle.set_program.specs.Orders.{Follows}
use Rattle.set_program.specs.Written.{NoFaultCounted, NothingFailed}

-- how a member was made, or why none was, as the end of a call
abbrev pub ended_so : Result (Unit {0}) SyncStop → Result (Unit {0}) Stop
ended_so (Ok done) = Ok tt
ended_so (Err stop) = Err (of_sync stop)

-- and what is left: the events and the disks of a set that was closed, or the set
abbrev pub left_so : {D : Type 0} → Result (Vec Event Global × Vec D Global) (Set D) → Left D
left_so (Ok (events, disks)) = Parts events disks
left_so (Err set) = World set

-- The set is still there: the node was asked after the script's events, up to the set's last one, and there
-- is nothing to begin with, or the line that says so couldn't be put.
abbrev pub MakesNoMember : ℕ → Sizes → List Event → Option (List ℕ) → Result (Unit {0}) Stop → List Event
    → Option (List ℕ) → Type 0
MakesNoMember node sizes events new ended scripted told =
    (stop : SyncStop) × (ended ≡ Err (of_sync stop)) × Pins sizes node scripted events told new (Err stop)

-- The script was played to its end on the disks that its set was opened on, and its transcript put. Then a
-- node was asked, the set closed, and a new member made.
pub record MakesMember {D : Type 0} (state : D → State) (node : ℕ) (parts : List Part) (sizes : Sizes)
    (first : List D) (old new : Option (List ℕ)) (ended : Result (Unit {0}) Stop) (events : List Event)
    (disks : List D)
    : Type 0 where
  pub scripted : Set D
  pub sizes_are : scripted.sizes ≡ sizes
  pub follows : Follows parts scripted.history
  pub played : DisksPlayed state first scripted
  pub told : Option (List ℕ)
  pub transcript : Appends old told (text (run sizes scripted.history))
  pub made : Result (Unit {0}) SyncStop
  pub ends : ended ≡ ended_so made
  pub adds : AddsMember state node scripted told new made events disks

-- a task that makes one did so
abbrev pub MadeMember : {D : Type 0} → (D → State) → Task → List Part → Sizes → List D → Option (List ℕ)
    → Option (List ℕ) → Result (Unit {0}) Stop → List Event → List D → Type 0
MadeMember state task parts sizes first old new ended events disks =
    (node : ℕ) × (task ≡ Sync node) × MakesMember state node parts sizes first old new ended events disks

-- What holds of each set that was run, of the set that was closed: its run is safe, its disks have the orders
-- of its events, and its stores failed where a disk did.
pub record IsRunSafely {D : Type 0} (state : D → State) (handed : List D) (set : Set D) : Type 0 where
  pub safe : Safe set.sizes set.history
  pub orders : OrdersCount state handed set
  pub failures : FailuresCount state handed set
  pub causes : FaultsHaveCauses state handed set
  pub armed : All (λ (disk : D). IsUnarmed (state disk)) handed → FaultsAreArmed set.sizes set.history
  pub unfailed : NoFaultCounted state handed set.disks → AllByRecursion NothingFailed set.history

-- the set of a script was opened on the disks that were handed in, and a new member made
pub record EndsWithMember {D : Type 0} (state : D → State) (handed : List D) (call : Call D)
    (old new : Option (List ℕ)) (ended : Result (Unit {0}) Stop) (events : List Event) (disks : List D)
    : Type 0 where
  pub node : ℕ
  pub task_is : call.task ≡ Sync node
  pub opens : Opens state call.read.nodes (Ok tt) handed call.opened
  pub member :
      MakesMember state node call.read.parts (sizes_of call.read) call.opened old new ended events disks
  pub sound : IsRunSafely state handed member.adds.set
  -- the disks without a node, of which the new member gets two, are then as they were before the call
  pub idle : drop (2 * call.read.nodes) member.adds.set.disks ≡ drop (2 * call.read.nodes) handed

-- the count of one of the two disks after those of the nodes rose
abbrev pub MemberFaultCounted : {D : Type 0} → (D → State) → ℕ → List D → List D → Type 0
MemberFaultCounted {D} state nodes old new =
    (place : ℕ) × (before : D) × (after : D) × (2 * nodes ≤ place) × (place < 2 * nodes + 2)
    × (slice_get old place ≡ Some before) × (slice_get new place ≡ Some after)
    × CountRose (state before).faults (state after).faults
