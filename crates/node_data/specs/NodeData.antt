-- What a node has written and will write, as a node whose other fields are as at the opening of the set. It
-- is primary where its log is open to writers, and a secondary where it follows another node's.
use Rattle.std.specs.Prelude.{◌≡◌, ◌<◌, ◌≤◌, ◌^◌, ℕ, Bool, true, false, All, IsTrue, List, [], ◌∷◌}
use Rattle.std.specs.Ordering.{nat_cmp}
use Rattle.std.specs.FinMap as maps
use Rattle.std.specs.FinSet as sets
use Rattle.rs_optime.specs.Order.{optime_cmp, is_before}
use Rattle.rs_optime.specs.declared.optime.OpTime.{OpTime}
use Rattle.oplog_entry.specs.Visible.{last_of}
use Rattle.oplog_entry.specs.declared.entry.Entry.{Entry}
use Rattle.member_config.specs.Config.{first_config}
use Rattle.member_config.specs.declared.config.Config.{Config}
use Rattle.set_model.specs.declared.role.Role.{Role}
use Rattle.set_model.specs.declared.role.Role.TheVariants.{Primary, Secondary}
use Rattle.set_model.specs.declared.writer.Writer.{Writer}
use Rattle.set_model.specs.Node.{Node, opening_node}
use Rattle.set_model.specs.Roles.{is_primary}

-- the node, and for how many more entries its log has room
pub record NodeData : Type 0 where
  pub node : Node
  pub spare : ℕ

-- a configuration of no members
abbrev pub nobody : Config
nobody = first_config 0 0

-- the role that the data has, by whether it is open to writers
abbrev pub data_role : Bool → Role
data_role true = Primary
data_role false = Secondary

-- a node with these fields, and the others as at the opening of the set
abbrev pub data_node : Bool → List Entry → sets.FinSet optime_cmp → maps.FinMap nat_cmp Writer → ℕ → OpTime
    → OpTime → Node
data_node writable log slots writers seen applied stable =
    record (opening_node nobody 0) {
      role = data_role writable;
      log = log;
      slots = slots;
      writers = writers;
      seen = seen;
      applied = applied;
      stable = stable;
    }

-- Data of a node that comes up with the entries of its log, all applied, and the documents of its checkpoint
-- as of an optime.
abbrev pub restored : List Entry → OpTime → Node
restored entries at =
    record (opening_node nobody 0) {
      log = entries;
      seen = (last_of entries).ts;
      applied = last_of entries;
      stable = at;
    }

-- An optime at which a primary may write next, or open a slot: later than every timestamp seen, and of no
-- earlier term than any entry and any open slot.
pub record IsNext (log : List Entry) (slots : sets.FinSet optime_cmp) (seen : ℕ) (at : OpTime) : Type 0 where
  pub past : seen < at.ts
  pub term : at.term < 2 ^ 63
  pub entries : All (λ entry. entry.optime.term ≤ at.term) log
  pub open_slots : (slot : OpTime) → IsTrue (sets.contains slots slot) → slot.term ≤ at.term

-- how far a log is applied after a batch
abbrev pub applied_after : OpTime → List Entry → OpTime
applied_after applied [] = applied
applied_after applied (entry ∷ entries) = last_of (entry ∷ entries)

-- data whose log is applied up to a point
abbrev pub applied_at : NodeData → OpTime → NodeData
applied_at node_data at = record node_data { node = record node_data.node { applied = at } }

-- data whose log is applied by one more batch
abbrev pub applied_with : NodeData → List Entry → NodeData
applied_with node_data batch =
    applied_at node_data (applied_after node_data.node.applied batch)

-- The documents can be read as of an optime: no version of then is pruned, and, except on a primary, the log
-- is applied that far.
pub record IsReadable (node : Node) (at : OpTime) : Type 0 where
  pub kept : is_before at node.stable ≡ false
  pub reached : is_primary node.role ≡ false → is_before node.applied at ≡ false
