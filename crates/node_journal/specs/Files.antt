-- A disk with a journal, between two calls of the journal and within them.
use Rattle.std.specs.Prelude.{◌⊎◌, ℕ, Bool, true, false, List, [], ◌∷◌, ◌++◌, ◌≡◌, length, Result, Ok, IsOk, IsErr}
use Rattle.std.proofs.Common.{inl, refl, ap, arith}
use Rattle.rs_disk.specs.File.{IsEmpty, LeavesOnly, contents}
use Rattle.rs_disk.specs.State.{State}
use Rattle.rs_disk.specs.Steps.{Step}
use Rattle.record_file.specs.Files.{EndsBy, IsAtRest as FileIsAtRest, OpensBy, append_steps}
use Rattle.record_file.specs.Layers.{IsOneLeft, MayLeave}
use Rattle.record_file.specs.Records.{HasRecords, body}
use Rattle.record_file.specs.declared.error.FileError.{FileError}
use Rattle.repl_msg.specs.Kept.{NEWEST_FORM, kept}
use Rattle.repl_msg.specs.declared.record.Kept.{Kept}
use Rattle.repl_msg.specs.declared.record.Record.{Record}
use Rattle.repl_msg.specs.declared.record.Record.TheVariants as records
use Rattle.node_journal.specs.Layout.{record_bytes}
use Rattle.node_journal.specs.Renewed.{renewed}
use Rattle.node_journal.specs.Spelled.{AreSpelled}

-- the file's records are the bytes of these
pub record HasJournal (bytes : List ℕ) (records : List Record) : Type 0 where
  pub pieces : List (List ℕ)
  pub spelled : AreSpelled records pieces
  pub has : HasRecords bytes pieces

-- the file is these records and nothing else, all of it synced, so that every crash leaves them
pub record IsAtRest (state : State) (records : List Record) : Type 0 where
  pub pieces : List (List ℕ)
  pub spelled : AreSpelled records pieces
  pub rests : FileIsAtRest state pieces

-- a journal that has not failed
pub record IsOpen (state : State) : Type 0 where
  pub records : List Record
  pub rests : IsAtRest state records

-- a crash may leave these records
abbrev pub MayHave : State → List Record → Type 0
MayHave state records = MayLeave HasJournal state records

-- the bytes have records, and the disk might have had these
abbrev pub IsOneOf : State → List ℕ → Type 0
IsOneOf state image = IsOneLeft HasJournal state image

-- a disk that is empty or that a journal left: whatever a crash leaves of it has records
pub record IsJournalDisk (state : State) : Type 0 where
  pub leaves : LeavesOnly (λ image. (records : List Record) × HasJournal image records) state.file

-- an empty disk is one
pub empty_disk : (state : State) → IsEmpty state.file → IsJournalDisk state
empty_disk state empty = record {
  leaves = λ image is. (
    [],
    record {
      pieces = [];
      spelled = tt;
      has = inl (omega (arith, ap length (empty.leaves image is)), refl);
    },
  );
}

-- the records as they were, or in the newest form
abbrev pub IsThemOrRenewed : List Record → List ℕ → Type 0
IsThemOrRenewed records image = HasJournal image records ⊎ HasJournal image (renewed records)

-- the bytes have records that the disk might have had, as they were or in the newest form
abbrev pub IsOneOfRenewed : State → List ℕ → Type 0
IsOneOfRenewed state image = (records : List Record) × MayHave state records × IsThemOrRenewed records image

-- the records before a record was added, or those with the new one
abbrev pub IsBeforeOrAfter : List Record → Record → List ℕ → Type 0
IsBeforeOrAfter records item image = HasJournal image records ⊎ HasJournal image (records ++ item ∷ [])

-- every crash leaves these records
abbrev pub HasOnly : State → List Record → Type 0
HasOnly state records = LeavesOnly (λ image. HasJournal image records) state.file

-- the calls that add the newest form to a file
abbrev pub form_steps : State → List Step
form_steps state =
    append_steps (length (contents state.file)) (body (record_bytes (records.Form NEWEST_FORM)) ++ 0 ∷ [])

-- those calls where the form is due, and no calls where it isn't
abbrev pub AddsForm : {T : Type 0} → (due : Bool) → Result T FileError → State → State → Type 0
AddsForm true result old new = EndsBy result (form_steps old) old new
AddsForm false result old new = IsOk result × (new ≡ old)

-- a journal's opening: that of its file, and after a success the newest form if that is due
abbrev pub OpensInForm : {T : Type 0} → (due : Bool) → Result T FileError → State → State → Type 0
OpensInForm due result old new = (IsErr result × OpensBy result old new)
    ⊎ ((opened : State) × OpensBy {T = Unit {0}} (Ok tt) old opened × AddsForm due result opened new)

-- this is the state that the records on the disk add up to
abbrev pub IsKeptOf : Kept → State → Type 0
IsKeptOf read state = (records : List Record) → IsAtRest state records → read ≡ kept records
