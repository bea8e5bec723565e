-- What stays on the disks of a majority.
use Rattle.std.specs.Prelude.{◌≡◌, ◌≢◌, ◌≤◌, ℕ, suc, true, List, Some, slice_get}
use Rattle.rs_optime.specs.declared.optime.OpTime.{OpTime}
use Rattle.oplog_entry.specs.Visible.{ZERO, log_up_to}
use Rattle.oplog_entry.specs.declared.entry.Entry.{Entry}
use Rattle.member_config.specs.Voters.{HasMajority}
use Rattle.set_model.specs.declared.command.Event.{Event}
use Rattle.set_model.specs.declared.reply.Reply.TheVariants as reply
use Rattle.set_model.specs.Node.{Node}
use Rattle.set_model.specs.Run.{Sizes, world_at}
use Rattle.set_model.specs.Safety.{Answers, IsAt, IsCommitted, is_majority_ack, was_durable}
use Rattle.disk_laws.specs.Kept.{HaveUpTo, Keeps}

module _ (sizes : Sizes) (events : List Event) where
  -- From a place on the journal of this node, up or down, has this log up to the optime, in every image.
  abbrev pub KeepsFrom : ℕ → ℕ → OpTime → List Entry → Type 0
  KeepsFrom place number at log =
      (j : ℕ) → place ≤ j
      → (node : Node) × (slice_get (world_at sizes events j).nodes number ≡ Some node) × Keeps node at log

  -- At this place or before, a primary had the optime committed, and since then each member that it had
  -- counted by then keeps this log: those are a majority of the voters of its configuration at that time.
  pub record IsKeptByMajority (place : ℕ) (at : OpTime) (log : List Entry) : Type 0 where
    pub since : ℕ
    pub by_then : since ≤ place
    pub number : ℕ
    pub primary : Node
    pub committed : IsCommitted sizes events since number primary at
    pub counted : HasMajority primary.config (was_durable sizes events primary.term committed.point since)
    pub keep :
        (member : ℕ) → was_durable sizes events primary.term committed.point since member ≡ true
        → KeepsFrom since member at log

  -- What was acknowledged at majority is kept by a majority for ever.
  abbrev pub AcknowledgedEntriesStay : Type 0
  AcknowledgedEntriesStay =
      (k n : ℕ) (event : Event) (at : OpTime) → Answers sizes events k n event (reply.Acked at)
      → is_majority_ack event.command ≡ true → (node : Node) → IsAt sizes events (suc k) n node
      → IsKeptByMajority (suc k) at (log_up_to at node.log)

  -- So is what any node has up to its commit point.
  abbrev pub CommitPointsStay : Type 0
  CommitPointsStay =
      (i n : ℕ) (node : Node) → IsAt sizes events i n node → node.commit ≢ ZERO
      → IsKeptByMajority i node.commit (log_up_to node.commit node.log)

  -- Whoever has on its journal what is acknowledged, earlier or later, keeps it.
  abbrev pub AcknowledgedEntriesAreNotLost : Type 0
  AcknowledgedEntriesAreNotLost =
      (k n : ℕ) (event : Event) (at : OpTime) → Answers sizes events k n event (reply.Acked at)
      → is_majority_ack event.command ≡ true → (node : Node) → IsAt sizes events (suc k) n node
      → (i v : ℕ) (member : Node) → slice_get (world_at sizes events i).nodes v ≡ Some member
      → HaveUpTo member.records at (log_up_to at node.log) → KeepsFrom i v at (log_up_to at node.log)
