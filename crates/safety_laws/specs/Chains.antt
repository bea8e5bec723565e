-- What is committed, at any nodes and places, is one history (MongoDB's replication architecture
-- guide, commit point).
use Rattle.std.specs.Prelude.{◌⊎◌, ℕ, List}
use Rattle.rs_optime.specs.Order.{AtMost}
use Rattle.rs_optime.specs.declared.optime.OpTime.{OpTime}
use Rattle.oplog_entry.specs.Log.{Begins}
use Rattle.oplog_entry.specs.Visible.{log_up_to}
use Rattle.oplog_entry.specs.declared.entry.Entry.{Entry}
use Rattle.set_model.specs.declared.command.Event.{Event}
use Rattle.set_model.specs.declared.command.ReadLevel.TheVariants.{Majority}
use Rattle.set_model.specs.Node.{Node}
use Rattle.set_model.specs.Reads.{shown_log}
use Rattle.set_model.specs.Run.{Sizes}
use Rattle.set_model.specs.Safety.{IsAt}

-- one of the two logs begins the other
abbrev pub AreOneChain : List Entry → List Entry → Type 0
AreOneChain one two = Begins one two ⊎ Begins two one

-- Logs up to commit points, or up to earlier optimes, form one chain.
abbrev pub CommittedLogsChain : Sizes → List Event → Type 0
CommittedLogsChain sizes events =
    (i j n m : ℕ) (one two : Node) → IsAt sizes events i n one → IsAt sizes events j m two
    → (at other : OpTime) → AtMost at one.commit → AtMost other two.commit
    → AreOneChain (log_up_to at one.log) (log_up_to other two.log)

-- What majority reads show, at all nodes and places, forms one chain.
abbrev pub MajorityReadsChain : Sizes → List Event → Type 0
MajorityReadsChain sizes events =
    (i j n m : ℕ) (one two : Node) → IsAt sizes events i n one → IsAt sizes events j m two
    → AreOneChain (shown_log one Majority) (shown_log two Majority)
