-- How a copy proceeds: what the opening finds, and what is done after it.
use Rattle.std.specs.Prelude.{◌≡◌, ◌≢◌, ◌⊎◌, List, ◌++◌, Option, None, Some}
use Rattle.rs_disk.specs.File.{contents}
use Rattle.rs_disk.specs.Moments.{EachMoment}
use Rattle.rs_disk.specs.State.{State}
use Rattle.repl_msg.specs.Kept.{kept}
use Rattle.repl_msg.specs.declared.record.Kept.{Kept}
use Rattle.repl_msg.specs.declared.record.Record.{Record}
use Rattle.node_journal.specs.Files.{HasJournal, IsAtRest as JournalAtRest, IsOneOfRenewed}
use Rattle.node_journal.specs.Renewed.{renewed}
use Rattle.checkpoint_store.specs.Files.{HasCheckpoint, IsAtRest as CheckpointsAtRest, IsBeforeOrAfter, IsOneOf as IsOneCheckpoint}
use Rattle.checkpoint_store.specs.declared.stable.Stable.{Stable}
use Rattle.initial_sync.specs.Copies.{Copy, documents_of}
use Rattle.initial_sync.specs.Missing.{HasFront, IsOfThis, missing}
use Rattle.initial_sync.specs.declared.error.CopyError.{CopyError}
use Rattle.initial_sync.specs.declared.error.CopyError.TheVariants.{Disk, OtherCopy, Memory}

-- both disks were opened, or as far as that went
pub record OpensBoth (j j' c c' : State) : Type 0 where
  pub journal : EachMoment (IsOneOfRenewed j) j j'
  pub checkpoints : EachMoment (IsOneCheckpoint c) c c'

-- this was read from both disks, and is there now, with the records in the newest form
pub record IsFound (found : Kept) (stable : Stable) (j j' c c' : State) : Type 0 where
  pub items : List Record
  pub records : HasJournal (contents j.file) items
  pub kept_is : found ≡ kept (renewed items)
  pub journal : JournalAtRest j' (renewed items)
  pub documents : HasCheckpoint (contents c.file) stable
  pub checkpoints : CheckpointsAtRest c' stable

-- What is missing was added to the journal, all of it or the first part, and after all of it the
-- checkpoint was saved.
pub record Fills (copy : Copy) (items : List Record) (stable : Stable) (Done : Type 0)
    (j j' c c' : State) : Type 0 where
  pub adds : EachMoment (HasFront items (missing copy (kept items))) j j'
  pub saves : EachMoment (IsBeforeOrAfter stable (documents_of copy.entries)) c c'
  pub in_turn : (c' ≡ c) ⊎ JournalAtRest j' (items ++ missing copy (kept items))
  pub done : Done → JournalAtRest j' (items ++ missing copy (kept items))
      × CheckpointsAtRest c' (documents_of copy.entries)

-- what was done after what was found: nothing, where that is of another copy
pub record WentOn (copy : Copy) (found : Kept) (stable : Stable) (error : Option CopyError)
    (j j' c c' : State) : Type 0 where
  pub other : error ≡ Some OtherCopy → (¬ IsOfThis copy found stable.at) × (j' ≡ j) × (c' ≡ c)
  pub this : error ≢ Some OtherCopy → IsOfThis copy found stable.at
  pub fills : error ≢ Some OtherCopy → (items : List Record) → JournalAtRest j items → found ≡ kept items
      → Fills copy items stable (error ≡ None) j j' c c'

-- the opening ended this way
abbrev pub IsStop : Option CopyError → Type 0
IsStop error = (error ≡ Some Disk) ⊎ (error ≡ Some Memory)

-- nothing was done after the opening, and memory ran out, or a disk failed; or what was found was looked at
abbrev pub Goes : Copy → Kept → Stable → Option CopyError → State → State → State → State → Type 0
Goes copy found stable error j j' c c' =
    (IsStop error × (j' ≡ j) × (c' ≡ c)) ⊎ WentOn copy found stable error j j' c c'

-- all of it
pub record Ran (copy : Copy) (error : Option CopyError) (j j' c c' : State) : Type 0 where
  pub journal : State
  pub checkpoints : State
  pub opens : OpensBoth j journal c checkpoints
  pub went : (IsStop error × (j' ≡ journal) × (c' ≡ checkpoints))
      ⊎ ((found : Kept) × (stable : Stable) × IsFound found stable j journal c checkpoints
      × WentOn copy found stable error journal j' checkpoints c')
