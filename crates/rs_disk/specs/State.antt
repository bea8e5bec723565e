-- What there is to know about a disk, and what its calls do to it.
use Rattle.std.specs.Prelude.{◌≡◌, ℕ, ◌≤◌, Bool, IsTrue, List, ◌∷◌, Result, Ok, Err, Option}
use Rattle.rs_io.specs.Fault.{CountRose}
use Rattle.rs_disk.specs.File.{File, write, changed, contents, settled, IsImage, LeavesOnly}
use Rattle.rs_disk.specs.Orders.{Orders, ordered, arm, power_cut}
use Rattle.rs_disk.specs.declared.disk.DiskError.{DiskError}
use Rattle.rs_disk.specs.declared.disk.DiskError.TheVariants.{Failed, Memory}

pub record State : Type 0 where
  pub file : File
  -- what the file was at each earlier moment, within a call too, the newest first
  pub past : List File
  -- how often the disk has failed; the count stops at its last value
  pub faults : ℕ
  pub orders : Orders
  pub is_armed : Bool
  -- it fails only where it is armed, now and later
  pub is_steady : Bool
  -- a write that ends at or before this place doesn't run out of memory
  pub room : ℕ

-- the same but for the room
abbrev pub SameButRoom : State → State → Type 0
SameButRoom old new = new ≡ record old { room = new.room }

-- A call went on, and then it ended: two moments passed.
abbrev pub Passed : File → State → State → Type 0
Passed during old new = new.past ≡ during ∷ old.file ∷ old.past

-- The call was done.
pub record IsDone (during done : File) (old new : State) : Type 0 where
  pub file : new.file ≡ done
  pub past : Passed during old new

-- The file is as a crash within the call may have left it: what is read now, and whatever a crash may leave
-- now, is something that such a crash may have left.
pub record IsCrashed (during : File) (old new : State) : Type 0 where
  pub reads : IsImage during (contents new.file)
  pub leaves : LeavesOnly (IsImage during) new.file
  pub past : Passed during old new

-- how a call without growth ends, by the file while it goes on and the file when it is done
abbrev pub Ends : {E : Type 0} → File → File → Result (Unit {0}) E → State → State → Type 0
Ends during done (Ok _) old new = IsDone during done old new
Ends during done (Err _) old new = IsCrashed during old new

-- how a write ends: out of memory leaves the disk as it was
abbrev pub Writes : ℕ → List ℕ → Result (Unit {0}) DiskError → State → State → Type 0
Writes at bytes (Ok _) old new =
    IsDone (changed (write at bytes) old.file) (changed (write at bytes) old.file) old new
Writes at bytes (Err Failed) old new = IsCrashed (changed (write at bytes) old.file) old new
Writes at bytes (Err Memory) old new = SameButRoom old new

-- What holds of each call of `read_at`, `write_at`, `cut` and `sync`. A fault comes only where the count
-- rose, and on a steady disk only where it was armed.
pub record Keeps (Fault : Type 0) (old new : State) : Type 0 where
  pub faults : old.faults ≤ new.faults
  pub cause : Fault → CountRose old.faults new.faults
  pub only_armed : Fault → IsTrue old.is_steady → IsTrue old.is_armed
  pub steady : IsTrue old.is_steady → IsTrue new.is_steady
  pub armed : IsTrue new.is_armed → IsTrue old.is_armed
  pub orders : new.orders ≡ old.orders
  pub room : old.room ≤ new.room

-- the disk was asked to fail at some call, and nothing else has changed
abbrev pub IsArmed : ℕ → Option ℕ → State → State → Type 0
IsArmed call pick old new =
    new ≡ record old { orders = ordered (arm call pick) old.orders; is_armed = new.is_armed }

-- the power was cut: one of the images is left, and counts as synced
pub record IsCut (pick : ℕ) (old new : State) : Type 0 where
  pub image : IsImage old.file (contents new.file)
  pub synced : new.file ≡ settled (contents new.file)
  pub past : Passed old.file old new
  pub rest : new
      ≡ record old { file = new.file; past = new.past; orders = ordered (power_cut pick) old.orders }
