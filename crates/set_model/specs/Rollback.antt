-- Rolling back what a later primary doesn't have (MongoDB's replication architecture
-- guide, rollback; RaftMongo).
use Rattle.std.specs.Prelude.{ℕ, ◌+◌, Bool, not, nat_lt, List, map, length, Option, None, Some, if◌then◌else◌}
use Rattle.std.specs.FinMap as maps
use Rattle.rs_optime.specs.declared.optime.OpTime.{OpTime}
use Rattle.bson_doc.specs.Place.{Place}
use Rattle.bson_doc.specs.Tree.{Fields}
use Rattle.oplog_entry.specs.declared.entry.Entry.{Entry}
use Rattle.oplog_entry.specs.Docs.{Documents}
use Rattle.oplog_entry.specs.Visible.{log_up_to}
use Rattle.repl_msg.specs.Rollback as known
pub use Rattle.repl_msg.specs.Rollback.{is_common, common_point, touched_documents}
use Rattle.repl_msg.specs.declared.message.Body.{Body}
use Rattle.repl_msg.specs.declared.message.Body.TheVariants as bodies
use Rattle.repl_msg.specs.declared.record.Record.TheVariants as records
use Rattle.set_model.specs.declared.reply.Ignored.{Ignored}
use Rattle.set_model.specs.declared.reply.Ignored.TheVariants.{NotSecondary, OldTerm, NotOlder, SameBranch}
use Rattle.set_model.specs.declared.reply.Reply.TheVariants.{Sent, Replied, RolledBack, Rolled}
use Rattle.set_model.specs.declared.reply.Refusal.{Refusal}
use Rattle.set_model.specs.declared.reply.Refusal.TheVariants.{TooManyOptimes}
use Rattle.set_model.specs.declared.store.Store.{Store}
use Rattle.set_model.specs.declared.store.Store.TheVariants as stores
use Rattle.set_model.specs.Node.{Node}
use Rattle.set_model.specs.Roles.{is_secondary}
use Rattle.set_model.specs.Points.{earlier_of, log_after, last_point, visible_log, visible_point}
use Rattle.set_model.specs.Reads.{local_documents}
use Rattle.set_model.specs.Outcome.{Outcome, replied, ignored, sending}
use Rattle.set_model.specs.Stores.{Plan, finished, then_stored}

-- ---- asking

abbrev pub common : ℕ → Node → ℕ → Outcome
common next node to = sending (Sent next) node to (bodies.CommonAsk node.commit)

-- ---- the answer

abbrev pub optimes_of : List Entry → List OpTime
optimes_of log = map (λ entry. entry.optime) log

-- the entries that are visible after a message of this term is taken: all of them where it makes the node
-- step down
abbrev pub shown_in : Node → ℕ → List Entry
shown_in node term = if nat_lt node.term term then node.log else visible_log node

-- more than 20,000 optimes would have to be sent
abbrev pub common_refusal : Node → ℕ → OpTime → Option Refusal
common_refusal node term after =
    if nat_lt 20000 (length (log_after after (shown_in node term))) then Some TooManyOptimes else None

abbrev pub common_reply : Node → OpTime → Body
common_reply node after =
    bodies.CommonReply after (optimes_of (log_after after (visible_log node))) (visible_point node)

abbrev pub common_asked : ℕ → Node → ℕ → OpTime → Outcome
common_asked next node from after = sending (Replied next) node from (common_reply node after)

-- ---- taking it

-- the source's log ends in the node's term, and the node's own in an earlier one
abbrev pub is_of_later_branch : Node → OpTime → Bool
is_of_later_branch node visible = known.is_of_later_branch node.term (last_point node) visible

-- why the node doesn't roll back: the first reason that holds
abbrev pub rollback_reason : Node → ℕ → OpTime → List OpTime → OpTime → Option Ignored
rollback_reason node term after optimes visible =
    if not (is_secondary node.role) then Some NotSecondary
    else if nat_lt term node.term then Some OldTerm
    else if not (is_of_later_branch node visible) then Some NotOlder
    else if is_common after optimes (last_point node) then Some SameBranch
    else None

-- the places that some entries touch, each once and in order, with the document here or none
abbrev pub lost_documents : Documents → List Entry → List (Place × Option Fields)
lost_documents documents entries = touched_documents (maps.get documents) entries

abbrev pub cut_record : OpTime → Store
cut_record at = stores.Record (records.Cut at)

-- the log is cut after a point, and the documents are those of the remaining log
abbrev pub cut_back : Node → OpTime → Node
cut_back node point =
    record node {
      log = log_up_to point node.log;
      applied = point;
      durable = earlier_of node.durable point;
      lost = lost_documents (local_documents node) (log_after point node.log);
      rollback = node.rollback + 1;
    }

abbrev pub rolled_back : Node → OpTime → Plan
rolled_back node point =
    then_stored node (cut_record point)
    (λ n. finished (replied (RolledBack point (length (log_after point n.log))) (cut_back n point)))

abbrev pub roll_back : Node → OpTime → Option Ignored → Plan
roll_back node point (Some why) = finished (ignored why node)
roll_back node point None = rolled_back node point

abbrev pub common_told : Node → ℕ → OpTime → List OpTime → OpTime → Plan
common_told node term after optimes visible =
    roll_back node (common_point node.log after optimes) (rollback_reason node term after optimes visible)

-- ---- the documents of the last rollback

abbrev pub rolled : Node → Outcome
rolled node = replied (Rolled node.lost) node
