-- What must hold of a node's records, so that it can come back with them.
use Rattle.std.specs.Prelude.{◌≡◌, ◌<◌, ◌≤◌, ◌⊎◌, ◌^◌, ℕ, false, List, All, None, IfSome}
use Rattle.rs_optime.specs.declared.optime.OpTime.{OpTime}
use Rattle.oplog_entry.specs.Visible.{ZERO, log_up_to}
use Rattle.oplog_entry.specs.declared.entry.Entry.{Entry}
use Rattle.oplog_store.specs.Log.{IsOplog}
use Rattle.entry_bytes.specs.Sizes.{IsWithinEntry}
use Rattle.member_config.specs.declared.config.Config.{Config}
use Rattle.member_config.specs.Rule.{rule}
use Rattle.repl_msg.specs.Kept.{kept}
use Rattle.repl_msg.specs.declared.record.Kept.{Kept}
use Rattle.repl_msg.specs.declared.record.Record.{Record}
use Rattle.set_model.specs.Node.{Node, opening_node}
use Rattle.set_model.specs.Safety.{AtMost, Has}
use Rattle.set_model.specs.Stores.{records_after, stable_after}
use Rattle.set_model.specs.declared.store.Store.{Store}
use Rattle.node_data.specs.NodeData.{IsReadable}
use Rattle.node_data.specs.Versions.{AreSmall}

-- the entries that count: those up to the point
abbrev pub counted : List Record → List Entry
counted records = log_up_to (kept records).point (kept records).entries

-- The vote is a member's, the configuration breaks no rule, the entries are a log up to the vote's term,
-- those up to the point are within the bounds of entries and documents, and the documents of the checkpoint
-- are no newer than the point.
pub record IsWellKept (records : List Record) (stable : OpTime) : Type 0 where
  pub term : (kept records).vote.term < 2 ^ 63
  pub vote : IfSome (kept records).vote.candidate (λ member. member < 50)
  pub config : IfSome (kept records).config (λ c. rule c ≡ None)
  pub oplog : IsOplog (kept records).entries
  pub terms : All (λ entry. entry.optime.term ≤ (kept records).vote.term) (kept records).entries
  pub entries : All IsWithinEntry (counted records)
  pub documents : AreSmall (counted records)
  pub there : ((kept records).point ≡ ZERO) ⊎ Has (kept records).entries (kept records).point
  pub stable_is : AtMost stable (kept records).point

-- what was read of a journal, with the entries after its point cut, is the state that these records add up to
pub record IsReadAs (found : Kept) (records : List Record) : Type 0 where
  pub vote : found.vote ≡ (kept records).vote
  pub config : found.config ≡ (kept records).config
  pub point : found.point ≡ (kept records).point
  pub entries : log_up_to found.point found.entries ≡ (kept records).entries

-- A node can come back, whether what it stores is on disk or not. The documents of its checkpoint are those
-- of the records that it then has, and of its log, and can be read in memory.
pub record StoresWell (node : Node) (item : Store) : Type 0 where
  pub well : IsWellKept (records_after node.records item) (stable_after node.stable item)
  pub same : log_up_to node.stable (kept (records_after node.records item)).entries
      ≡ log_up_to node.stable (kept node.records).entries
  pub shown : log_up_to (stable_after node.stable item) (kept node.records).entries
      ≡ log_up_to (stable_after node.stable item) node.log
  pub readable : IsReadable node (stable_after node.stable item)

-- a node that is about to come up: who it is, and what it kept while it was down
abbrev pub coming : Config → ℕ → List Record → OpTime → ℕ → ℕ → Node
coming first number records stable rollback clock =
    record (opening_node first number) {
      up = false;
      records = records;
      stable = stable;
      rollback = rollback;
      clock = clock;
    }
