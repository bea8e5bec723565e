-- A node that is down, and one that is up or down.
use Rattle.std.specs.Prelude.{ℕ, Bool, true, false, List, Option}
use Rattle.rs_optime.specs.declared.optime.OpTime.{OpTime}
use Rattle.repl_msg.specs.declared.record.Record.{Record}
use Rattle.set_model.specs.declared.store.Store.{Store}
use Rattle.set_model.specs.Node.{Node, opening_node}
use Rattle.node_core.specs.declared.down.DownState.{DownState as InMemory}

-- what a node that is down has besides its disks: the clock, how often it rolled back or restarted, and what
-- was being stored when a disk failed
pub record DownState : Type 0 where
  pub clock : ℕ
  pub stable : OpTime
  pub rollback : ℕ
  pub records : List Record
  pub doubt : Option Store

-- as the code stores it
abbrev pub down_state : InMemory → DownState
down_state left =
    record {
      clock = left.clock;
      stable = left.stable;
      rollback = left.rollback;
      records = left.records.list;
      doubt = left.doubt;
    }

-- the node that is down, from what it was while it was up
abbrev pub down_node : Node → DownState → Node
down_node node left =
    record (opening_node node.first node.number) {
      up = false;
      doubt = left.doubt;
      records = left.records;
      stable = left.stable;
      rollback = left.rollback;
      clock = left.clock;
    }

abbrev pub seen_node : Bool → Node → DownState → Node
seen_node true node left = node
seen_node false node left = down_node node left
