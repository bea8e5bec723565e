-- A disk with records, between two calls of a record file and within them.
use Rattle.std.specs.Prelude.{◌≡◌, ◌⊎◌, ℕ, ◌+◌, ◌-◌, ◌<◌, ◌≤◌, min, List, [], ◌∷◌, ◌++◌, length, Result, Ok, Err}
use Rattle.std.proofs.Common.{inl, refl, ap, arith}
use Rattle.rs_disk.specs.File.{IsEmpty, LeavesOnly, write, cut, settled, contents}
use Rattle.rs_disk.specs.State.{State}
use Rattle.rs_disk.specs.Steps.{Step, reads, changes, syncs, Makes, MakesFirst, FailsWithin}
use Rattle.record_file.specs.Layers.{IsOneLeft, MayLeave}
use Rattle.record_file.specs.Parsed.{IsParsed}
use Rattle.record_file.specs.Records.{AreOpen, HasRecords, body}
use Rattle.record_file.specs.declared.error.FileError.{FileError}
use Rattle.record_file.specs.declared.error.FileError.TheVariants.{Disk, Memory}

-- The file is these records and one closed gate, all of it synced. So every crash leaves them.
pub record IsAtRest (state : State) (records : List (List ℕ)) : Type 0 where
  pub front : List ℕ
  pub open_records : AreOpen records front
  pub file : state.file ≡ settled (front ++ 0 ∷ [])

-- a record file that has not failed
pub record IsOpen (state : State) : Type 0 where
  pub records : List (List ℕ)
  pub rests : IsAtRest state records

-- a crash may leave this list
abbrev pub MayHave : State → List (List ℕ) → Type 0
MayHave state records = MayLeave HasRecords state records

-- the bytes have a list, and it is one that the disk might have had
abbrev pub IsOneOf : State → List ℕ → Type 0
IsOneOf state image = IsOneLeft HasRecords state image

-- A disk that is empty or that a record file left: whatever a crash leaves of it has a list of records. What
-- it reads as has one too.
pub record IsRecordDisk (state : State) : Type 0 where
  pub leaves : LeavesOnly (λ image. (records : List (List ℕ)) × HasRecords image records) state.file

-- an empty disk is one
pub empty_disk : (state : State) → IsEmpty state.file → IsRecordDisk state
empty_disk state empty =
    record { leaves = λ image is. ([], inl (omega (arith, ap length (empty.leaves image is)), refl)) }

-- the records before an append, or those with the new one
abbrev pub IsBeforeOrAfter : List (List ℕ) → List ℕ → List ℕ → Type 0
IsBeforeOrAfter records piece image = HasRecords image records ⊎ HasRecords image (records ++ piece ∷ [])

-- the records, and after them the first of those that are added
abbrev pub HasFirst : List (List ℕ) → List (List ℕ) → List ℕ → Type 0
HasFirst records added image =
    (first : List (List ℕ)) × (rest : List (List ℕ)) × (added ≡ first ++ rest)
    × HasRecords image (records ++ first)

-- how many bytes records may take, each with 5 more, before memory is needed
abbrev pub spare : State → ℕ → ℕ
spare state buffer = min (state.room - length (contents state.file)) buffer

-- the disk after an opening that gave something beside a file on that disk
abbrev pub disk_after : {D A : Type 0} → Result ((D × ℕ) × A) (D × FileError) → D
disk_after (Ok opened) = opened.0.0
disk_after (Err refused) = refused.0

-- what an opening answers, but for the disk that it hands back
abbrev pub answer_of : {D A : Type 0} → Result A (D × FileError) → Result A FileError
answer_of (Ok opened) = Ok opened
answer_of (Err refused) = Err refused.1

-- which of these calls were made where the answer is an error: a fault ends them, and memory runs
-- out between two
abbrev pub StopsBy : FileError → List Step → State → State → Type 0
StopsBy Disk steps old new = FailsWithin steps old new
StopsBy Memory steps old new = MakesFirst steps old new

-- all of these calls were made and done, or after an error the first ones
abbrev pub EndsBy : {T : Type 0} → Result T FileError → List Step → State → State → Type 0
EndsBy (Ok value) steps old new = Makes steps old new
EndsBy (Err error) steps old new = StopsBy error steps old new

-- the calls of an append: write the record and the next gate after the last gate, sync, write the last
-- gate itself, sync
abbrev pub append_steps : ℕ → List ℕ → List Step
append_steps at tail = changes (write at tail) ∷ syncs ∷ changes (write (at - 1) (1 ∷ [])) ∷ syncs ∷ []

-- the calls that add these records, one after the other, to a file of this many bytes
abbrev pub adding_steps : ℕ → List (List ℕ) → List Step
adding_steps at [] = []
adding_steps at (piece ∷ pieces) =
    append_steps at (body piece ++ 0 ∷ []) ++ adding_steps (at + (length piece + 5)) pieces

-- the calls of an opening of an empty file, and of one with records
abbrev pub first_steps : List Step
first_steps = syncs ∷ changes (write 0 (0 ∷ [])) ∷ syncs ∷ []

abbrev pub repair_steps : ℕ → List Step
repair_steps end = syncs ∷ reads ∷ changes (cut end) ∷ syncs ∷ []

-- The calls of an opening, by what its first sync leaves: a file with records is cut after the
-- first closed gate.
abbrev pub AreOpeningSteps : List ℕ → List Step → Type 0
AreOpeningSteps bytes steps = ((length bytes ≤ 1) × (steps ≡ first_steps))
    ⊎ ((1 < length bytes) × (records : List (List ℕ)) × (end : ℕ) × IsParsed bytes records end
    × (steps ≡ repair_steps end))

-- an opening made its calls, or with an error the first of them, and no others
abbrev pub OpensBy : {T : Type 0} → Result T FileError → State → State → Type 0
OpensBy result old new =
    (steps : List Step) × AreOpeningSteps (contents old.file) steps × EndsBy result steps old new
