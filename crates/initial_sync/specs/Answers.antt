-- What a copy returns, and the disks that it hands back.
use Rattle.std.specs.Prelude.{◌⊎◌, IsTrue, List, Option, None, Some, Result, Ok, Err}
use Rattle.rs_io.specs.Fault.{CountRose}
use Rattle.rs_disk.specs.File.{contents}
use Rattle.rs_disk.specs.State.{State, Keeps}
use Rattle.repl_msg.specs.declared.record.Record.{Record}
use Rattle.node_journal.specs.Files.{HasJournal, IsAtRest as JournalAtRest}
use Rattle.node_journal.specs.Renewed.{renewed}
use Rattle.checkpoint_store.specs.Files.{HasCheckpoint, IsAtRest as CheckpointsAtRest}
use Rattle.checkpoint_store.specs.declared.stable.Stable.{Stable}
use Rattle.record_file.specs.declared.error.FileError.{FileError}
use Rattle.record_file.specs.declared.error.FileError.TheVariants.{Disk, Memory}
use Rattle.initial_sync.specs.declared.error.CopyError.{CopyError}
use Rattle.initial_sync.specs.declared.error.CopyError.TheVariants.{Disk as CopyDisk, Memory as CopyMemory}

abbrev pub journal_after : {D : Type 0} → Result (D × D) (D × D × CopyError) → D
journal_after (Ok disks) = disks.0
journal_after (Err refused) = refused.0

abbrev pub checkpoints_after : {D : Type 0} → Result (D × D) (D × D × CopyError) → D
checkpoints_after (Ok disks) = disks.1
checkpoints_after (Err refused) = refused.1

-- the error, if there is one
abbrev pub error_after : {D : Type 0} → Result (D × D) (D × D × CopyError) → Option CopyError
error_after (Ok disks) = None
error_after (Err refused) = Some refused.2

abbrev pub error_of : {A : Type 0} → Result A CopyError → Option CopyError
error_of (Ok value) = None
error_of (Err error) = Some error

-- What stays true of two disks while they are used. A fault comes only where the count of one rose, and on
-- steady disks only where one was armed.
pub record RanBoth (Fault : Type 0) (j j' c c' : State) : Type 0 where
  pub journal : Keeps ⊥ j j'
  pub checkpoints : Keeps ⊥ c c'
  pub cause : Fault → CountRose j.faults j'.faults ⊎ CountRose c.faults c'.faults
  pub only_armed : Fault → IsTrue j.is_steady → IsTrue c.is_steady → IsTrue j.is_armed ⊎ IsTrue c.is_armed

-- the error of a copy for an error of a file
abbrev pub copy_error : FileError → CopyError
copy_error Disk = CopyDisk
copy_error Memory = CopyMemory

-- The disks now have the records that were read, in the newest form, and the last checkpoint that was read.
-- Nothing else was added, and every crash leaves them.
pub record LeavesAsRead (j j' c c' : State) : Type 0 where
  pub journal : (items : List Record) → HasJournal (contents j.file) items → JournalAtRest j' (renewed items)
  pub checkpoints : (stable : Stable) → HasCheckpoint (contents c.file) stable → CheckpointsAtRest c' stable
