-- What was acknowledged is kept by those that a primary had counted.
use Rattle.std.proofs.Common.{◌≡◌, ◌≤◌, inl, inr, ap, subst, refl, arith, ℕ, zero, suc, Bool, true, false, ◌==◌, eqb-true, Option, None, Some, List, slice_get}
use Rattle.std.proofs.lemmas.Bool.{and_parts, or_cases}
use Rattle.rs_optime.specs.declared.optime.OpTime.{OpTime}
use Rattle.oplog_entry.specs.Visible.{log_up_to}
use Rattle.oplog_entry.specs.declared.entry.Entry.{Entry}
use Rattle.set_model.specs.declared.command.Event.{Event}
use Rattle.set_model.specs.Limits.{IsRun}
use Rattle.set_model.specs.Node.{Node}
use Rattle.set_model.specs.Run.{AreSizes, Sizes, world_at}
use Rattle.set_model.specs.Safety.{CommittedStay, IsCommitted, WasCommitted, is_durable_in, passes, was_durable}
use Rattle.safety_laws.specs.Bounds.{NumbersStaySmall}
use Rattle.disk_laws.specs.Acknowledged.{AcknowledgedEntriesStay, CommitPointsStay, IsKeptByMajority, KeepsFrom}
use Rattle.disk_laws.proofs.Kept.{counted_stay, positive}
use Rattle.disk_laws.proofs.Resting.{Rests}
use Rattle.disk_laws.proofs.RestingRuns.{rests_at, still_there}

-- a node is durable in a term at or above 1 only while it is up
durable_up : (sizes : Sizes) (events : List Event) (term : ℕ) (point : OpTime) (node : Node) → Rests node → 1 ≤ term → is_durable_in sizes events term point node ≡ true → node.up ≡ true
durable_up sizes events term point node rests high is = go node.up refl
  where
    go : (up : Bool) → node.up ≡ up → node.up ≡ true
    go true up = up
    go false down =
        let one : ((node.term == term) ≡ true) × _ = and_parts (node.term == term) _ is in
        let two : ((node.durable.term == term) ≡ true) × _ = and_parts (node.durable.term == term) _ one.1 in
        let own : node.durable.term ≡ term = eqb-true node.durable.term term two.0 in
        let none : node.durable.term ≡ 0 = ap (λ (o : OpTime). o.term) (rests.blank down) in
        absurd (omega (arith, own, none, high))

module _ (sizes : Sizes) (events : List Event) where
  passed : (test : Node → Bool) (found : Option Node) → passes sizes events test found ≡ true → (node : Node) × (found ≡ Some node) × (test node ≡ true)
  passed test None is = absurd (cc is)
  passed test (Some node) is = (node, refl, is)

  -- the member, where it was durable
  durable_place : (term : ℕ) (point : OpTime) (place member : ℕ) → was_durable sizes events term point place member ≡ true
      → (i : ℕ) × (node : Node) × (i ≤ place) × (slice_get (world_at sizes events i).nodes member ≡ Some node) × (is_durable_in sizes events term point node ≡ true)
  durable_place term point zero member was =
      let found : (node : Node) × (slice_get (world_at sizes events 0).nodes member ≡ Some node) × (is_durable_in sizes events term point node ≡ true) =
      passed (is_durable_in sizes events term point) (slice_get (world_at sizes events 0).nodes member) was in
      (0, found.0, omega arith, found.1, found.2)
  durable_place term point (suc place) member was = elim (or_cases (passes sizes events (is_durable_in sizes events term point) (slice_get (world_at sizes events (suc place)).nodes member)) _ was) [
    | inl here ↦
        let found : (node : Node) × (slice_get (world_at sizes events (suc place)).nodes member ≡ Some node) × (is_durable_in sizes events term point node ≡ true) =
        passed (is_durable_in sizes events term point) (slice_get (world_at sizes events (suc place)).nodes member) here in
        (suc place, found.0, omega arith, found.1, found.2)
    | inr before ↦
        let found = durable_place term point place member before in
        let order : found.0 ≤ place = found.2 in
        (found.0, found.1, omega (arith, order), found.3, found.4)
  ]

  module _ (are : AreSizes sizes) (is : IsRun sizes events) (small : NumbersStaySmall sizes events) where
    member_keeps : (h m : ℕ) (primary : Node) (at : OpTime) (committed : IsCommitted sizes events h m primary at) (member : ℕ)
        → was_durable sizes events primary.term committed.point h member ≡ true → KeepsFrom sizes events h member at (log_up_to at primary.log)
    member_keeps h m primary at committed member was j late =
        let found = durable_place primary.term committed.point h member was in
        let order : found.0 ≤ h = found.2 in
        let up : found.1.up ≡ true = durable_up sizes events primary.term committed.point found.1 (rests_at sizes events are is found.0 member found.1 found.3) (positive sizes events are is h m primary at committed) found.4 in
        let now : (node : Node) × (slice_get (world_at sizes events j).nodes member ≡ Some node) = still_there sizes events small found.0 j member found.1 found.3 in
        (now.0, now.1, counted_stay sizes events are is h m primary at committed found.0 member found.1 (record { there = found.3; up = up }) found.4 j now.0 late (omega (arith, order, late)) now.1)

    kept_by : (place : ℕ) (node : Node) (at : OpTime) → WasCommitted sizes events place node at → IsKeptByMajority sizes events place at (log_up_to at node.log)
    kept_by place node at (h, m, primary, by_then, committed, same) = record {
      since = h;
      by_then = by_then;
      number = m;
      primary = primary;
      committed = committed;
      counted = committed.voters_have;
      keep = λ member was. subst (λ (l : List Entry). KeepsFrom sizes events h member at l) same (member_keeps h m primary at committed member was);
    }

    pub acknowledged_stay : CommittedStay sizes events → AcknowledgedEntriesStay sizes events
    acknowledged_stay stay k n event at answers majority node node_at = kept_by (suc k) node at (stay.acknowledged k n event at answers majority node node_at).0

    pub points_stay : CommittedStay sizes events → CommitPointsStay sizes events
    points_stay stay i n node node_at apart = kept_by i node node.commit (stay.points i n node node_at apart).0
