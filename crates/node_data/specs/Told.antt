-- What was told of a log.
use Rattle.std.specs.Prelude.{◌≡◌, List, All}
use Rattle.oplog_entry.specs.Visible.{log_up_to}
use Rattle.oplog_entry.specs.declared.entry.Entry.{Entry}
use Rattle.oplog_fetcher.specs.Fetch.{reply_to}
use Rattle.repl_msg.specs.Logs.{log_after}
use Rattle.repl_msg.specs.declared.message.FetchReply.{FetchReply}
use Rattle.set_model.specs.Rollback.{optimes_of}
use Rattle.node_data.specs.declared.told.Told.{Told}
use Rattle.node_data.specs.declared.told.ToldOptimes.{ToldOptimes}

-- what a fetch from the log is answered
abbrev pub IsAnswer : List Entry → FetchReply → Type 0
IsAnswer log reply = reply ≡ reply_to log reply.visible reply.base reply.commit reply.primary

-- the optimes between two of the log
abbrev pub AreBetween : List Entry → ToldOptimes → Type 0
AreBetween log told = told.optimes ≡ optimes_of (log_after told.after (log_up_to told.to log))

abbrev pub IsTold : List Entry → Told → Type 0
IsTold log told = All (IsAnswer log) told.replies.items × All (AreBetween log) told.lists.items
