-- What reading does to the two disks, and what is read.
use Rattle.std.specs.Prelude.{◌≡◌, List}
use Rattle.rs_disk.specs.File.{contents}
use Rattle.rs_disk.specs.State.{State}
use Rattle.repl_msg.specs.Kept.{kept}
use Rattle.repl_msg.specs.declared.record.Kept.{Kept}
use Rattle.repl_msg.specs.declared.record.Record.{Record}
use Rattle.node_journal.specs.Files.{HasJournal}
use Rattle.node_journal.specs.Renewed.{renewed}
use Rattle.checkpoint_store.specs.Files.{HasCheckpoint}
use Rattle.checkpoint_store.specs.declared.stable.Stable.{Stable}
use Rattle.initial_sync.specs.Copies.{AreCopyDisks, Copy, IsPartOrWhole, IsWhole, LeaveBoth}
use Rattle.initial_sync.specs.Moments.{EachMomentOfBoth, IsBefore}

-- A crash at any moment leaves what an earlier one might have left, except that the journal may be in the
-- newest form. So two disks with part or all of a copy still have it at each moment, and disks with all of it
-- still have all of it. A copy can use them after the reading.
pub record ReadsOver (j j' c c' : State) : Type 0 where
  pub moments : EachMomentOfBoth (IsBefore j c) j j' c c'
  pub part : (copy : Copy) → LeaveBoth (IsPartOrWhole copy) j.file c.file
      → EachMomentOfBoth (IsPartOrWhole copy) j j' c c'
  pub whole : (copy : Copy) → LeaveBoth (IsWhole copy) j.file c.file
      → EachMomentOfBoth (IsWhole copy) j j' c c'
  pub left : AreCopyDisks j' c'

-- the state that the journal's records add up to in the newest form, and the last checkpoint
abbrev pub AreRead : State → State → Kept → Stable → Type 0
AreRead j c read stable =
    (items : List Record) (last : Stable) → HasJournal (contents j.file) items
    → HasCheckpoint (contents c.file) last → (read ≡ kept (renewed items)) × (stable ≡ last)
