-- Fetching what comes after a node's last entry (MongoDB's replication architecture guide, oplog fetching).
use Rattle.std.specs.Prelude.{Bool, ◌&&◌, ◌||◌, List, [], take, if◌then◌else◌}
use Rattle.rs_optime.specs.declared.optime.OpTime.{OpTime}
use Rattle.oplog_entry.specs.declared.entry.Entry.{Entry}
use Rattle.oplog_entry.specs.Visible.{ZERO}
use Rattle.repl_msg.specs.declared.message.FetchReply.{FetchReply}
use Rattle.repl_msg.specs.Logs.{same_optime, has_entry, log_after}

-- the visible log has this place: ZERO, or an entry's
abbrev pub holds : List Entry → OpTime → Bool
holds shown base = same_optime base ZERO || has_entry shown base

-- the next visible entries after a place, at most 5,000; none, where the log doesn't have the place
abbrev pub entries_after : List Entry → OpTime → List Entry
entries_after shown base = if holds shown base then take 5000 (log_after base shown) else []

-- the answer of a source with this visible log, its visible optime, its commit point and whether
-- it is primary
abbrev pub reply_of : List Entry → (visible base commit : OpTime) → Bool → FetchReply
reply_of shown visible base commit primary =
    record {
      base = base;
      holds = holds shown base;
      entries = entries_after shown base;
      visible = visible;
      commit = commit;
      primary = primary;
    }

-- the answer continues a log from its last optime
abbrev pub continues : OpTime → FetchReply → Bool
continues last reply = reply.holds && same_optime reply.base last
