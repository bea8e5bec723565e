-- The order of the logs in a run, and what a leader keeps (MongoDB's replication architecture guide, oplog).
use Rattle.std.specs.Prelude.{◌<◌, ◌≤◌, ℕ, List}
use Rattle.std.specs.List.{AllPairs}
use Rattle.rs_optime.specs.Membership.{In}
use Rattle.rs_optime.specs.Order.{AtMost, Before}
use Rattle.oplog_entry.specs.declared.entry.Entry.{Entry}
use Rattle.oplog_entry.specs.Log.{StandsBefore}
use Rattle.oplog_entry.specs.Visible.{ZERO}
use Rattle.set_model.specs.declared.command.Event.{Event}
use Rattle.set_model.specs.Node.{Node}
use Rattle.set_model.specs.Points.{next_optime}
use Rattle.set_model.specs.Run.{Sizes}
use Rattle.set_model.specs.Safety.{IsAt, Leads}

-- Along the log of a node that is up, timestamps rise and terms never fall.
abbrev pub LogsRise : Sizes → List Event → Type 0
LogsRise sizes events =
    (place number : ℕ) (node : Node) → IsAt sizes events place number node → AllPairs StandsBefore node.log

-- No entry is at ZERO, which means the beginning of each log.
abbrev pub EntriesFollowZero : Sizes → List Event → Type 0
EntriesFollowZero sizes events =
    (place number : ℕ) (node : Node) → IsAt sizes events place number node
    → (entry : Entry) → In entry node.log → Before ZERO entry.optime

-- The optime that a node's next entry gets is later than each entry of its log.
abbrev pub NextOptimesAreLast : Sizes → List Event → Type 0
NextOptimesAreLast sizes events =
    (place number : ℕ) (node : Node) → IsAt sizes events place number node
    → (entry : Entry) → In entry node.log → Before entry.optime (next_optime node)

-- A leader keeps its log: each entry, visible or not, is still there wherever it leads in the same term
-- later.
abbrev pub LeadersKeep : Sizes → List Event → Type 0
LeadersKeep sizes events =
    (i j number term : ℕ) (old new : Node) → i ≤ j → Leads sizes events i number term old
    → Leads sizes events j number term new → (entry : Entry) → In entry old.log → In entry new.log

-- A leader's entries of earlier terms are in its log wherever it leads in that term, sooner or later: while
-- it leads, it adds entries of its own term alone.
abbrev pub LeadersAddTheirOwn : Sizes → List Event → Type 0
LeadersAddTheirOwn sizes events =
    (i j number term : ℕ) (one two : Node) → Leads sizes events i number term one
    → Leads sizes events j number term two
    → (entry : Entry) → In entry two.log → entry.optime.term < term → In entry one.log

-- Where an entry is committed at a node, the node's log has no entry of an earlier term that a leader of the
-- entry's term lacks.
abbrev pub LeadersHadWhatIsBefore : Sizes → List Event → Type 0
LeadersHadWhatIsBefore sizes events =
    (i j n m : ℕ) (node leader : Node) (entry before : Entry) → IsAt sizes events i n node
    → In entry node.log → AtMost entry.optime node.commit
    → In before node.log → before.optime.term < entry.optime.term
    → Leads sizes events j m entry.optime.term leader → In before leader.log
