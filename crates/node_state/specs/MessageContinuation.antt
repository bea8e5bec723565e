-- What a message does at a node that has taken its term.
use Rattle.std.specs.Prelude.{ℕ, ◌+◌, List, Option, None, Some}
use Rattle.bson_doc.specs.Place.{Place}
use Rattle.bson_doc.specs.Tree.{Fields}
use Rattle.rs_optime.specs.declared.optime.OpTime.{OpTime}
use Rattle.oplog_entry.specs.Visible.{log_up_to}
use Rattle.repl_msg.specs.declared.message.Beat.{Beat}
use Rattle.set_model.specs.declared.reply.Reply.TheVariants as reply
use Rattle.set_model.specs.Node.{Node}
use Rattle.set_model.specs.Beats.{commit_heard, given_way}
use Rattle.set_model.specs.Changes.{heard_of, installed}
use Rattle.set_model.specs.Fetching.{entries_told}
use Rattle.set_model.specs.Outcome.{Outcome, ignored, replied}
use Rattle.set_model.specs.Points.{earlier_of}
use Rattle.set_model.specs.Rollback.{cut_record}
use Rattle.set_model.specs.Stores.{Plan, finished, then_stored, config_record}
use Rattle.node_state.specs.declared.turn.Answer.{Answer}
use Rattle.node_state.specs.declared.turn.HeardBeat.{HeardBeat}
use Rattle.node_state.specs.declared.turn.MessageContinuation.{MessageContinuation}
use Rattle.node_state.specs.declared.turn.MessageContinuation.TheVariants.{Answered, Fetched, Heard, RolledBack, Ignored}
use Rattle.node_state.specs.declared.turn.NewConfig.{NewConfig}

-- what was heard, as a heartbeat of this configuration
abbrev pub beat_in : HeardBeat → Node → Beat
beat_in hearing node =
    record {
      config = node.config;
      commit = hearing.commit;
      visible = hearing.visible;
      primary = hearing.primary;
    }

abbrev pub answered : Option Answer → Node → Outcome
answered None node = replied reply.Heard node
answered (Some answer) node =
    record { reply = reply.Replied answer.next; node = node; sent = answer.sent.items }

-- the sender is known, its commit point is learnt, and it is answered
abbrev pub heard_outcome : HeardBeat → Node → Outcome
heard_outcome hearing node =
    answered hearing.answer
    (commit_heard (heard_of node hearing.from hearing.visible hearing.primary) (beat_in hearing node))

abbrev pub heard_with : HeardBeat → Option NewConfig → Node → Plan
heard_with hearing None node = finished (heard_outcome hearing node)
heard_with hearing (Some newer) node =
    then_stored node (config_record newer.installed)
    (λ n. finished (heard_outcome hearing (installed n newer.installed)))

-- the log is cut after a point, and these documents are lost
abbrev pub cut_outcome : OpTime → ℕ → List (Place × Option Fields) → Node → Outcome
cut_outcome point removed lost node =
    replied (reply.RolledBack point removed)
    (record node {
      log = log_up_to point node.log;
      applied = point;
      durable = earlier_of node.durable point;
      lost = lost;
      rollback = node.rollback + 1;
    })

abbrev pub message_plan : MessageContinuation → Node → Plan
message_plan (Answered next sent) node =
    finished (record { reply = reply.Replied next; node = node; sent = sent.items })
message_plan (Fetched from fetched) node = finished (entries_told node from fetched)
message_plan (Heard newer hearing) node =
    heard_with hearing newer (given_way node (beat_in hearing node))
message_plan (RolledBack point removed lost) node =
    then_stored node (cut_record point) (λ n. finished (cut_outcome point removed lost n))
message_plan (Ignored why) node = finished (ignored why node)
