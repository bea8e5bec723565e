-- A rollback goes back to the last entry that the node and its source have in common (MongoDB's replication
-- architecture guide, rollback).
use Rattle.std.specs.Prelude.{◌≡◌, ◌⊎◌, ◌<◌, ◌≤◌, ℕ, suc, List, length, None, Some, slice_get}
use Rattle.rs_optime.specs.Order.{AtMost}
use Rattle.rs_optime.specs.declared.optime.OpTime.{OpTime}
use Rattle.oplog_entry.specs.declared.entry.Entry.{Entry}
use Rattle.oplog_entry.specs.Visible.{ZERO, log_up_to}
use Rattle.repl_msg.specs.declared.message.Body.TheVariants as bodies
use Rattle.repl_msg.specs.declared.message.Message.{Message}
use Rattle.set_model.specs.declared.command.Event.{Event}
use Rattle.set_model.specs.Deliver.{termed}
use Rattle.set_model.specs.Node.{Node}
use Rattle.set_model.specs.Points.{visible_log}
use Rattle.set_model.specs.Rollback.{common_point, rollback_reason}
use Rattle.set_model.specs.Run.{Sizes, world_at}
use Rattle.set_model.specs.Safety.{Has, IsAt}

-- the last entry that both logs have, or ZERO where they have none; up to it they are the same
pub record IsGreatestInBoth (one two : List Entry) (at : OpTime) : Type 0 where
  pub there : (at ≡ ZERO) ⊎ (Has one at × Has two at)
  pub same : log_up_to at one ≡ log_up_to at two
  pub greatest : (o : OpTime) → Has one o → Has two o → AtMost o at

module _ (sizes : Sizes) (events : List Event) where
  -- The event at this place sent the message of this number; `sender` is the node that sent it, just
  -- after the event.
  pub record IsSent (place number : ℕ) (message : Message) (sender : Node) : Type 0 where
    pub new : length (world_at sizes events place).messages ≤ number
    pub there : slice_get (world_at sizes events (suc place)).messages number ≡ Some message
    pub sends : IsAt sizes events (suc place) message.from sender

  -- If an answer makes a node roll back, the common point is the last entry that two logs share: the node's
  -- own, and the source's visible log when it sent the answer. It is ZERO where they share none.
  abbrev pub CommonPointsAreGreatest : Type 0
  CommonPointsAreGreatest =
      (place number : ℕ) (node : Node) (message : Message) (after : OpTime) (optimes : List OpTime)
      (visible : OpTime)
      → IsAt sizes events place message.to node
      → slice_get (world_at sizes events place).messages number ≡ Some message
      → message.body ≡ bodies.CommonReply after optimes visible
      → rollback_reason (termed node message) message.term after optimes visible ≡ None
      → (sent : ℕ) × (source : Node) × (sent < place) × IsSent sent number message source
      × IsGreatestInBoth (termed node message).log (visible_log source)
      (common_point (termed node message).log after optimes)
