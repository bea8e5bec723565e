-- Work that comes after a script.
use Rattle.std.specs.Prelude.{ℕ, ◌⊎◌, Option, Result, Ok, Err, List}
use Rattle.std.specs.Io.KnownBytes.{Appends}
use Rattle.set_model.specs.declared.command.Event.{Event}
use Rattle.set_model.specs.Run.{run}
use Rattle.set_world.specs.World.{Set}
use Rattle.fault_script.specs.declared.script.Part.{Part}
use Rattle.transcript.specs.Replies.{text}
use Rattle.set_program.specs.declared.stop.Stop.{Stop}
use Rattle.set_program.specs.declared.stop.Stop.TheVariants.{Memory, Usage, Script as NoScript, ReadFault, WriteFault, TooLong, DiskFault, CopyFault, Refused}
use Rattle.set_program.specs.Orders.{AnyPrefix, Follows, NoPrefix, StopsAtAPoint}

-- The script is played to its end, and its transcript put. Then this holds of its events, and of what the
-- sink holds.
pub record AfterScript {D : Type 0} (parts : List Part) (old : Option (List ℕ)) (set : Set D)
    (Holds : List Event → Option (List ℕ) → Type 0) : Type 0 where
  pub scripted : List Event
  pub follows : Follows parts scripted
  pub told : Option (List ℕ)
  pub transcript : Appends old told (text (run set.sizes scripted))
  pub work : Holds scripted told

-- How a task with work after its script ends: the script stopped, or this holds of the work.
abbrev pub EndsAfterScript : {D : Type 0} → List Part → Option (List ℕ) → Option (List ℕ)
    → (Result (Unit {0}) Stop → List Event → Option (List ℕ) → Type 0) → Result (Unit {0}) Stop → Set D
    → Type 0
EndsAfterScript parts old new Works (Ok done) set = AfterScript parts old set (Works (Ok done))
EndsAfterScript parts old new Works (Err Refused) set = AfterScript parts old set (Works (Err Refused))
EndsAfterScript parts old new Works (Err Memory) set =
    StopsAtAPoint set.sizes NoPrefix parts old new set.history
    ⊎ AfterScript parts old set (Works (Err Memory))
EndsAfterScript parts old new Works (Err WriteFault) set =
    StopsAtAPoint set.sizes AnyPrefix parts old new set.history
    ⊎ AfterScript parts old set (Works (Err WriteFault))
EndsAfterScript parts old new Works (Err Usage) set = ⊥
EndsAfterScript parts old new Works (Err NoScript) set = ⊥
EndsAfterScript parts old new Works (Err ReadFault) set = ⊥
EndsAfterScript parts old new Works (Err TooLong) set = ⊥
EndsAfterScript parts old new Works (Err DiskFault) set = ⊥
EndsAfterScript parts old new Works (Err CopyFault) set = ⊥
