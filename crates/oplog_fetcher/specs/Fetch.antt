-- Fetching, from a log and the optime up to which it is visible (MongoDB's replication architecture
-- guide, oplog fetching).
use Rattle.std.specs.Prelude.{Bool, List}
use Rattle.rs_optime.specs.declared.optime.OpTime.{OpTime}
use Rattle.oplog_entry.specs.declared.entry.Entry.{Entry}
use Rattle.oplog_entry.specs.Visible.{log_up_to}
use Rattle.repl_msg.specs.declared.message.FetchReply.{FetchReply}
use Rattle.repl_msg.specs.Fetching.{reply_of}

-- the answer from a log that is visible up to an optime
abbrev pub reply_to : List Entry → (visible base commit : OpTime) → Bool → FetchReply
reply_to log visible base commit primary = reply_of (log_up_to visible log) visible base commit primary
