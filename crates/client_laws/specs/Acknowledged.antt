-- What a majority acknowledged (MongoDB manual, write concern "majority").
use Rattle.std.specs.Prelude.{◌≡◌, ℕ, suc, true, List}
use Rattle.rs_optime.specs.Membership.{In}
use Rattle.rs_optime.specs.declared.optime.OpTime.{OpTime}
use Rattle.oplog_entry.specs.Visible.{log_up_to}
use Rattle.oplog_entry.specs.declared.entry.Entry.{Entry}
use Rattle.set_model.specs.declared.command.Event.{Event}
use Rattle.set_model.specs.declared.reply.Reply.TheVariants as reply
use Rattle.set_model.specs.Node.{Node}
use Rattle.set_model.specs.Run.{Sizes}
use Rattle.set_model.specs.Safety.{Answers, IsAt, is_majority_ack}
use Rattle.safety_laws.specs.Chains.{AreOneChain}

module _ (sizes : Sizes) (events : List Event) where
  -- the event after a place acknowledged an optime at majority, at a node
  pub record IsAcked (place number : ℕ) (at : OpTime) (node : Node) : Type 0 where
    pub event : Event
    pub answers : Answers sizes events place number event (reply.Acked at)
    pub asks : is_majority_ack event.command ≡ true
    pub node_at : IsAt sizes events (suc place) number node

  -- an acknowledged log: a node's log up to an optime that the node acknowledged at majority
  pub record IsAcknowledged (log : List Entry) : Type 0 where
    pub place : ℕ
    pub number : ℕ
    pub at : OpTime
    pub node : Node
    pub acked : IsAcked place number at node
    pub log_is : log ≡ log_up_to at node.log

  -- an acknowledged log has the entry: it was acknowledged, or comes before one that was
  abbrev pub WasAcknowledged : Entry → Type 0
  WasAcknowledged entry = (log : List Entry) × IsAcknowledged log × In entry log

  -- All acknowledged logs form one chain.
  abbrev pub AcknowledgedLogsChain : Type 0
  AcknowledgedLogsChain =
      (one two : List Entry) → IsAcknowledged one → IsAcknowledged two → AreOneChain one two
