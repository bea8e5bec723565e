-- How two empty disks become those of a new member.
use Rattle.std.specs.Prelude.{◌≡◌, ◌⊎◌, ℕ, List, length, Result, Ok, Err}
use Rattle.record_file.specs.declared.error.FileError.{FileError}
use Rattle.record_file.specs.declared.error.FileError.TheVariants.{Disk as FileDisk, Memory as FileMemory}
use Rattle.rs_disk.specs.State.{State}
use Rattle.initial_sync.specs.Copies.{Copy, IsPartOrWhole, IsWhole, LeaveBoth}
use Rattle.initial_sync.specs.Moments.{EachMomentOfBoth}
use Rattle.initial_sync.specs.Pinned.{listed_of}
use Rattle.initial_sync.specs.declared.error.CopyError.{CopyError}
use Rattle.initial_sync.specs.declared.error.CopyError.TheVariants.{Disk, OtherCopy, Memory as NoBytes}
use Rattle.initial_sync.specs.declared.pinned.Pinned.{Pinned}
use Rattle.sync_words.specs.Texts.{synced_text}
use Rattle.sync_words.specs.declared.stop.SyncStop.{SyncStop}
use Rattle.sync_words.specs.declared.stop.SyncStop.TheVariants.{DiskFault, WriteFault, Memory}

-- why no member is made if no copy is
abbrev pub of_copy : CopyError → SyncStop
of_copy Disk = DiskFault
of_copy OtherCopy = DiskFault
of_copy NoBytes = Memory

abbrev pub of_file : FileError → SyncStop
of_file FileDisk = DiskFault
of_file FileMemory = Memory

-- the lines about the member of this number
abbrev pub pinned_text : ℕ → Pinned → List ℕ
pinned_text number pinned =
    synced_text number pinned.at (length pinned.entries.items) (listed_of pinned.documents.items)

-- Two empty disks become a copy, and are read. At each moment a crash leaves a part of the copy, or the
-- whole; at the end it leaves the whole, even if the sink then failed.
pub record BecomesMember (copy : Copy) (ended : Result (Unit {0}) SyncStop) (j j' c c' : State)
    : Type 0 where
  pub journal : State
  pub checkpoints : State
  pub copied : EachMomentOfBoth (IsPartOrWhole copy) j journal c checkpoints
  pub told : EachMomentOfBoth (IsPartOrWhole copy) journal j' checkpoints c'
  pub whole : (ended ≡ Ok tt) ⊎ (ended ≡ Err WriteFault) → LeaveBoth (IsWhole copy) j'.file c'.file
