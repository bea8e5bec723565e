-- What a crash of two disks at some moment may have left, where one is used after the other.
use Rattle.std.specs.Prelude.{◌⊎◌, ℕ, List}
use Rattle.rs_disk.specs.File.{File, LeavesOnly, contents}
use Rattle.rs_disk.specs.Moments.{EachMoment}
use Rattle.rs_disk.specs.State.{State}
use Rattle.repl_msg.specs.Kept.{kept}
use Rattle.repl_msg.specs.declared.record.Record.{Record}
use Rattle.node_journal.specs.Files.{HasJournal, IsOneOfRenewed}
use Rattle.node_journal.specs.Renewed.{renewed}
use Rattle.checkpoint_store.specs.Files.{HasCheckpoint, IsOneOf as IsOneCheckpoint}
use Rattle.checkpoint_store.specs.declared.stable.Stable.{Stable}
use Rattle.initial_sync.specs.Copies.{Copy, IsPartOrWhole}
use Rattle.initial_sync.specs.Missing.{HasFront, IsOfThis, missing}

-- with the checkpoint file fixed, or with the journal's file fixed
abbrev pub BesideCheckpoints : (List ℕ → List ℕ → Type 0) → File → List ℕ → Type 0
BesideCheckpoints P checkpoints journal = LeavesOnly (P journal) checkpoints

abbrev pub BesideJournal : (List ℕ → List ℕ → Type 0) → File → List ℕ → Type 0
BesideJournal P journal checkpoints = LeavesOnly (λ image. P image checkpoints) journal

-- At each moment a crash left two lists of bytes that satisfy P. First the journal was opened, then the
-- checkpoints; after that the journal was written, then the checkpoints.
pub record EachMomentOfBoth (P : List ℕ → List ℕ → Type 0) (j j' c c' : State) : Type 0 where
  pub journal : State
  pub checkpoints : State
  pub opens_journal : EachMoment (BesideCheckpoints P c.file) j journal
  pub opens_checkpoints : EachMoment (BesideJournal P journal.file) c checkpoints
  pub writes_journal : EachMoment (BesideCheckpoints P checkpoints.file) journal j'
  pub writes_checkpoints : EachMoment (BesideJournal P j'.file) checkpoints c'

-- What is now read from both disks can be part or all of the copy. Its records, in the newest form, are
-- followed by the first of those that the copy adds.
pub record IsContinued (copy : Copy) (j c : State) (image : List ℕ) : Type 0 where
  pub items : List Record
  pub stable : Stable
  pub records : HasJournal (contents j.file) items
  pub documents : HasCheckpoint (contents c.file) stable
  pub this : IsOfThis copy (kept items) stable.at
  pub front : HasFront (renewed items) (missing copy (kept items)) image

-- what a crash before might have left of both disks, or the same with the journal in the newest form
abbrev pub IsBefore : State → State → List ℕ → List ℕ → Type 0
IsBefore j c journal checkpoints = IsOneOfRenewed j journal × IsOneCheckpoint c checkpoints

-- that, or part or all of the copy after what is there now
abbrev pub IsBeforeOrContinued : State → State → Copy → List ℕ → List ℕ → Type 0
IsBeforeOrContinued j c copy journal checkpoints =
    IsBefore j c journal checkpoints
    ⊎ (IsPartOrWhole copy journal checkpoints × IsContinued copy j c journal)
