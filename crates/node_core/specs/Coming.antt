-- How a node comes up with what its disks have (MongoDB's replication architecture guide: recovery from the
-- last stable checkpoint, and truncating the oplog after the point up to which it is whole).
use Rattle.std.specs.Prelude.{◌≡◌, ℕ, ◌++◌, Bool, false, nat_lt, List, [], ◌∷◌, length, Option, None, Some, if◌then◌else◌}
use Rattle.rs_disk.specs.File.{contents}
use Rattle.rs_disk.specs.State.{State}
use Rattle.rs_optime.specs.Later.{same_optime}
use Rattle.rs_optime.specs.declared.optime.OpTime.{OpTime}
use Rattle.oplog_entry.specs.Visible.{last_of}
use Rattle.repl_msg.specs.Kept.{kept}
use Rattle.repl_msg.specs.declared.record.Kept.{Kept}
use Rattle.repl_msg.specs.declared.record.Record.{Record}
use Rattle.repl_msg.specs.declared.record.Record.TheVariants as records
use Rattle.node_journal.specs.Files.{HasJournal, IsAtRest as JournalAtRest}
use Rattle.checkpoint_store.specs.Files.{HasCheckpoint, IsAtRest as CheckpointsAtRest}
use Rattle.set_model.specs.declared.store.Store.{Store}
use Rattle.set_model.specs.declared.store.Store.TheVariants as stores
use Rattle.set_model.specs.Disk.{come_back, has_more, settled_doubt}
use Rattle.set_model.specs.Node.{Node}
use Rattle.node_core.specs.Stands.{documents_at}
use Rattle.node_core.specs.declared.coming_up.Found.{Found}
use Rattle.node_core.specs.declared.coming_up.Prepared.{Prepared}
use Rattle.node_state.specs.WellKept.{IsWellKept}

-- ---- what is found

-- both disks were read, and what was read is on them now
pub record IsRead (found : Found) (j j' c c' : State) : Type 0 where
  pub kept_is : (items : List Record) → HasJournal (contents j.file) items → found.kept ≡ kept items
  pub journal : (items : List Record) → HasJournal (contents j.file) items → JournalAtRest j' items
  pub stable_is : HasCheckpoint (contents c.file) found.stable
  pub checkpoints : CheckpointsAtRest c' found.stable

-- Whether what was in doubt is on disk, given the number of records: the journal has one more, or the last
-- checkpoint is the one that was being saved.
abbrev pub is_there : Option Store → ℕ → Found → Bool
is_there None count found = false
is_there (Some (stores.Record item)) count found = nat_lt count found.kept.count
is_there (Some (stores.Checkpoint at)) count found = same_optime found.stable.at at

-- the node after that is known
abbrev pub settled : Node → ℕ → Found → Node
settled node count found = settled_doubt node node.doubt (is_there node.doubt count found)

-- what was found is what the node stored, and is enough to come back with
pub record IsFound (node : Node) (found : Found) : Type 0 where
  pub kept_is : found.kept ≡ kept node.records
  pub stable_is : found.stable ≡ documents_at node node.stable
  pub well : IsWellKept node.records node.stable

-- ---- what it comes up with

-- the point, if entries come after it
abbrev pub cut_point : Kept → Option OpTime
cut_point found = if has_more found then Some found.point else None

-- the records with a cut there
abbrev pub cut_records : Option OpTime → List Record → List Record
cut_records None items = items
cut_records (Some at) items = items ++ records.Cut at ∷ []

-- the node whose journal is cut there
abbrev pub cut_node : Option OpTime → Node → Node
cut_node point node = record node { records = cut_records point node.records }

-- This node can come up, and needs no more memory for that.
pub record IsPrepared (node : Node) (prepared : Prepared) : Type 0 where
  pub count : prepared.count ≡ length node.records
  pub cut : prepared.cut ≡ cut_point (kept node.records)
  pub state : prepared.state.node
      ≡ come_back (cut_node prepared.cut node) (kept (cut_records prepared.cut node.records))
  pub last : prepared.last ≡ last_of (kept (cut_records prepared.cut node.records)).entries
