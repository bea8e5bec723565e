-- A disk with checkpoints, between two calls of a checkpoint store and within them.
use Rattle.std.specs.Prelude.{◌≡◌, ◌⊎◌, ℕ, List, [], map, length, All, Result, Ok, Err}
use Rattle.std.proofs.Common.{inl, refl, ap, arith}
use Rattle.rs_disk.specs.File.{IsEmpty, LeavesOnly}
use Rattle.rs_disk.specs.State.{State}
use Rattle.record_file.specs.Files.{IsAtRest as FileIsAtRest}
use Rattle.record_file.specs.Layers.{IsOneLeft, MayLeave}
use Rattle.record_file.specs.Records.{HasRecords}
use Rattle.record_file.specs.declared.error.FileError.{FileError}
use Rattle.checkpoint_store.specs.Layout.{Record, record_bytes}
use Rattle.checkpoint_store.specs.Spelled.{IsRecord}
use Rattle.checkpoint_store.specs.Checkpoint.{last_whole}
use Rattle.checkpoint_store.specs.declared.stable.Stable.{Stable}

-- the file's records are the bytes of these
pub record HasList (bytes : List ℕ) (records : List Record) : Type 0 where
  pub each : All IsRecord records
  pub has : HasRecords bytes (map record_bytes records)

-- the pieces are the bytes of these records
pub record AreSpelled (records : List Record) (pieces : List (List ℕ)) : Type 0 where
  pub each : All IsRecord records
  pub spelled : pieces ≡ map record_bytes records

-- this is the last whole checkpoint of the file's records
pub record HasCheckpoint (bytes : List ℕ) (stable : Stable) : Type 0 where
  pub records : List Record
  pub list : HasList bytes records
  pub last : last_whole records ≡ stable

-- the file is these records and nothing else, all of it synced, so that every crash leaves them
pub record IsAtRestWith (state : State) (records : List Record) : Type 0 where
  pub each : All IsRecord records
  pub rests : FileIsAtRest state (map record_bytes records)

-- All of the file is synced, and this is its last whole checkpoint. The beginning of an unfinished one may
-- come after it.
pub record IsAtRest (state : State) (stable : Stable) : Type 0 where
  pub records : List Record
  pub rests : IsAtRestWith state records
  pub last : last_whole records ≡ stable

-- a checkpoint store that has not failed
pub record IsOpen (state : State) : Type 0 where
  pub records : List Record
  pub rests : IsAtRestWith state records

-- a crash may leave this as the last whole checkpoint
abbrev pub MayHave : State → Stable → Type 0
MayHave state stable = MayLeave HasCheckpoint state stable

-- the bytes have a last whole checkpoint, and it is one that the disk might have had
abbrev pub IsOneOf : State → List ℕ → Type 0
IsOneOf state image = IsOneLeft HasCheckpoint state image

-- a disk that is empty or that a checkpoint store left: whatever a crash leaves of it has checkpoints
pub record IsCheckpointDisk (state : State) : Type 0 where
  pub leaves : LeavesOnly (λ image. (stable : Stable) × HasCheckpoint image stable) state.file

-- an empty disk is one
pub empty_disk : (state : State) → IsEmpty state.file → IsCheckpointDisk state
empty_disk state empty = record {
  leaves = λ image is. (
    last_whole [],
    record {
      records = [];
      list = record {
        each = λ k d within. absurd (omega arith);
        has = inl (omega (arith, ap length (empty.leaves image is)), refl);
      };
      last = refl;
    },
  );
}

-- the last whole checkpoint from before a new one was saved, or the new one
abbrev pub IsBeforeOrAfter : Stable → Stable → List ℕ → Type 0
IsBeforeOrAfter before after image = HasCheckpoint image before ⊎ HasCheckpoint image after

-- the disk after an opening
abbrev pub disk_after : {D A : Type 0} → Result (D × A) (D × FileError) → D
disk_after (Ok opened) = opened.0
disk_after (Err refused) = refused.0
