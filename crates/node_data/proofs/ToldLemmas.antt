-- What a log tells.
use Rattle.std.proofs.Common.{◌≡◌, ◌∙◌, ap, sym, subst, refl, Bool, List}
use Rattle.rs_optime.specs.declared.optime.OpTime.{OpTime}
use Rattle.oplog_entry.specs.Visible.{log_up_to}
use Rattle.oplog_entry.specs.declared.entry.Entry.{Entry}
use Rattle.oplog_fetcher.specs.Fetch.{reply_to}
use Rattle.repl_msg.specs.Fetching.{reply_of}
use Rattle.repl_msg.specs.declared.message.FetchReply.{FetchReply}
use Rattle.node_data.specs.Told.{IsAnswer}

-- what the settled entries tell is an answer of the log
pub is_answer : (log settled : List Entry) (reply : FetchReply) (visible base commit : OpTime) (primary : Bool)
    → log_up_to visible settled ≡ log_up_to visible log → reply ≡ reply_to settled visible base commit primary → IsAnswer log reply
is_answer log settled reply visible base commit primary same is =
    subst (λ (r : FetchReply). r ≡ reply_to log r.visible r.base r.commit r.primary)
    (sym (is ∙ ap (λ (shown : List Entry). reply_of shown visible base commit primary) same)) refl
