-- In which call an arm strikes, and what it leaves.
use Rattle.std.specs.Prelude.{◌≡◌, ◌↔◌, ℕ, ◌+◌, ◌-◌, ◌^◌, min, Bool, false, nat_le, IsTrue, Option, Some, None, if◌then◌else◌}
use Rattle.rs_disk.specs.File.{File, settled}
use Rattle.rs_disk.specs.Picks.{picked}
use Rattle.rs_disk.specs.State.{State}
use Rattle.rs_disk.specs.declared.arm.Arm.{Arm}

-- the next call fails
abbrev pub fails_next : Option Arm → Bool
fails_next None = false
fails_next (Some arm) = nat_le arm.calls 1

-- the arm after one more call
abbrev pub counted : Option Arm → Option Arm
counted None = None
counted (Some arm) =
    if nat_le arm.calls 1 then None else Some (record { calls = arm.calls - 1; pick = arm.pick })

-- the file after a failed call: as before the call, or what a power cut within it left
abbrev pub file_after_fault : Option Arm → File → File → File
file_after_fault None old during = old
file_after_fault (Some arm) old during = left arm.pick
  where
    left : Option ℕ → File
    left None = old
    left (Some pick) = settled (picked pick during)

-- A call failed exactly where the arm named it. Without a pick it did nothing. The arm was counted down.
pub record FailsAsArmed (during : File) (Fault : Type 0) (arm counted_arm : Option Arm)
    (old new : State) : Type 0 where
  pub fails : Fault ↔ IsTrue (fails_next arm)
  pub leaves : Fault → new.file ≡ file_after_fault arm old.file during
  pub counts : new.faults ≡ (if fails_next arm then min (old.faults + 1) (2 ^ 64 - 1) else old.faults)
  pub arms : counted_arm ≡ counted arm
