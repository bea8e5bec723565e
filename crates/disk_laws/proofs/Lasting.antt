-- Whoever has on its journal what is acknowledged, earlier or later, keeps it.
use Rattle.std.proofs.Common.{◌≡◌, ◌∙◌, ◌<◌, ◌≤◌, ◌+◌, inl, inr, ap, sym, subst, arith, ℕ, suc, Some, List, slice_get}
use Rattle.rs_optime.specs.Membership.{In}
use Rattle.rs_optime.specs.declared.optime.OpTime.{OpTime}
use Rattle.rs_optime.proofs.Optimes.{at_most_refl, at_most_trans}
use Rattle.oplog_entry.specs.Visible.{log_up_to}
use Rattle.oplog_entry.specs.declared.entry.Entry.{Entry}
use Rattle.set_model.specs.declared.command.Event.{Event}
use Rattle.set_model.specs.Limits.{IsRun}
use Rattle.set_model.specs.Node.{Node}
use Rattle.set_model.specs.Points.{visible_log}
use Rattle.set_model.specs.Run.{AreSizes, Sizes, world_at}
use Rattle.set_model.specs.Safety.{IsAt, Safe}
use Rattle.commit_machine.specs.Machine.{Action, IsAllowed, actor, after}
use Rattle.commit_machine.specs.Nodes.{Snapshot, State, Was, Winner, now}
use Rattle.commit_machine.specs.Words.{AtMost, Has}
use Rattle.commit_machine.proofs.Consequences.{leaders_have}
use Rattle.commit_machine.proofs.Facts.{HasDrained, Invariant}
use Rattle.commit_machine.proofs.Growth.{now_was, win_cases}
use Rattle.commit_machine.proofs.Keeps.{keeps}
use Rattle.commit_machine.proofs.Lists.{has_up_to, up_to_has}
use Rattle.commit_machine.proofs.Static.{log_match}
use Rattle.commit_machine.proofs.Views.{IsElected, win_elected}
use Rattle.safety_laws.specs.Bounds.{NumbersStaySmall}
use Rattle.safety_laws.specs.Logs.{LeadersKeep, LogsRise}
use Rattle.safety_laws.proofs.Delivers.{deliveries_tied}
use Rattle.safety_laws.proofs.Rel.{AreKept, IsNode, snapshot_of}
use Rattle.safety_laws.proofs.Rows.{rows_tied}
use Rattle.safety_laws.proofs.Runs.{had_of, kept_of, rel_of, state_of, up_of, was_of}
use Rattle.safety_laws.proofs.Steps.{durable_same}
use Rattle.linear_read.specs.Written.{EntriesAreWritten}
use Rattle.linear_read.proofs.LinearReads.{AckedAt, acked_at}
use Rattle.disk_laws.specs.Acknowledged.{AcknowledgedEntriesAreNotLost, KeepsFrom}
use Rattle.disk_laws.specs.Kept.{HaveUpTo}
use Rattle.disk_laws.proofs.Counted.{HasKept}
use Rattle.disk_laws.proofs.Kept.{node_keeps, records_say}
use Rattle.disk_laws.proofs.RestingRuns.{still_there}

-- who won a term above an optime's has it
abbrev WinnersHave : State → OpTime → Type 0
WinnersHave state o = (win : Winner) → In win state.wins → o.term < win.term → Has o win.log

-- an optime is in each log that is the same up to it
has_there : (o : OpTime) (one other : List Entry) → log_up_to o one ≡ log_up_to o other → Has o one → Has o other
has_there o one other same has =
    (up_to_has o o other (subst (λ (l : List Entry). Has o l) same (has_up_to o o one has (at_most_refl o)))).0

-- what such a node had durably it has
stays : (state : State) (inv : Invariant state) (v : ℕ) (y : Snapshot) → Was state v y → (o : OpTime) (log : List Entry) → Has o y.log → HasKept y o log → WinnersHave state o → HasKept (now state v) o log
stays state inv v y was o log there had have = elim (inv.kept_entry v y was o there had.durable) [
  | inl here ↦ record { durable = here.1; same = log_match state inv v (now state v) (now_was state v) v y was o here.0 there ∙ had.same }
  | inr lacked ↦ absurd (lacked.lacks (have lacked.win lacked.won lacked.above))
]

-- and after whatever it does next
stays_then : (state : State) (inv : Invariant state) (v : ℕ) (y : Snapshot) → Was state v y → (o : OpTime) (log : List Entry) → Has o y.log → HasKept y o log → WinnersHave state o
    → (action : Action) → IsAllowed state action → actor action ≡ v → HasKept (now (after state action) v) o log
stays_then state inv v y was o log there had have action allowed own =
    stays (after state action) (keeps state action allowed inv) v y (inr was) o log there had have_then
  where
    has_now : Has o (now state v).log
    has_now =
        let own_is : HasKept (now state v) o log = stays state inv v y was o log there had have in
        has_there o y.log (now state v).log (had.same ∙ sym own_is.same) there

    have_then : WinnersHave (after state action) o
    have_then win won above = elim (win_cases state action win won) [
      | inl new ↦
          let elected : IsElected state action win = win_elected state action allowed win new in
          subst (λ (l : List Entry). Has o l) elected.log (subst (λ n. Has o (now state n).log) (sym own) has_now)
      | inr old ↦ have win old above
    ]

module _ (sizes : Sizes) (events : List Event) (are : AreSizes sizes) (is : IsRun sizes events) (k n : ℕ) (at : OpTime) (node : Node) (node_at : IsAt sizes events (suc k) n node)
    (term_is : node.term ≡ at.term) (in_log : Has at node.log) (committed : AtMost at node.commit) where
  abbrev state : ℕ → State
  state place = state_of rows_tied deliveries_tied sizes events are is place

  inv : (place : ℕ) → Invariant (state place)
  inv place = kept_of rows_tied deliveries_tied sizes events are is place

  was : (place : ℕ) → suc k ≤ place → Was (state place) n (snapshot_of node)
  was place late = had_of rows_tied deliveries_tied sizes events are is (suc k) place n node node_at late

  -- what is acknowledged is visible
  visible : Has at (visible_log node)
  visible =
      let low : AtMost at node.durable = at_most_trans at node.commit node.durable committed ((inv (suc k)).points n (snapshot_of node) (was (suc k) (omega arith))).order in
      let same : log_up_to node.durable node.log ≡ log_up_to node.durable (visible_log node) =
      durable_same (state (suc k)) node (inv (suc k)) (up_of rows_tied deliveries_tied sizes events are is (suc k) n node node_at).1 in
      (up_to_has at node.durable (visible_log node) (subst (λ (l : List Entry). Has at l) same (has_up_to at node.durable node.log in_log low))).0

  winners_have : (place : ℕ) → WinnersHave (state place) at
  winners_have place win won above =
      let drained : HasDrained (state place) win = (inv place).win_past win won in
      let found : Has at drained.node.log × _ =
      leaders_have (state (place + suc k)) (inv (place + suc k)) n (snapshot_of node) (was (place + suc k) (omega arith)) at visible committed win.number drained.node
      (was_of rows_tied deliveries_tied sizes events are is place (place + suc k) (omega arith) win.number drained.node drained.was) (inl drained.role)
      (omega (arith, above, term_is, drained.term)) in
      subst (λ (l : List Entry). Has at l) drained.log found.0

  module _ (small : NumbersStaySmall sizes events) (i v : ℕ) (member : Node) (there : slice_get (world_at sizes events i).nodes v ≡ Some member)
      (have : HaveUpTo member.records at (log_up_to at node.log)) where
    -- what its journal gives is what the machine has of it
    on_disk : AreKept member.records member.first (now (state i) v)
    on_disk =
        let is_node = (rel_of rows_tied deliveries_tied sizes events are is i).nodes v member there in
        go is_node.0 is_node.1
      where
        go : member.number ≡ v → IsNode (state i) member → AreKept member.records member.first (now (state i) v)
        go number (inl up) = subst (λ a. AreKept member.records member.first a) (sym up.snapshot ∙ ap (now (state i)) number) up.records
        go number (inr down) = subst (λ m. AreKept member.records member.first (now (state i) m)) number down.records

    had : HasKept (now (state i) v) at (log_up_to at node.log)
    had = records_say member.records member.first (now (state i) v) at (log_up_to at node.log) on_disk have

    has : Has at (now (state i) v).log
    has = has_there at node.log (now (state i) v).log (sym had.same) in_log

    pub keeps_from : KeepsFrom sizes events i v at (log_up_to at node.log)
    keeps_from j late =
        let now_there : (found : Node) × (slice_get (world_at sizes events j).nodes v ≡ Some found) = still_there sizes events small i j v member there in
        let node_is = (rel_of rows_tied deliveries_tied sizes events are is j).nodes v now_there.0 now_there.1 in
        let before : Was (state j) v (now (state i) v) = was_of rows_tied deliveries_tied sizes events are is i j late v (now (state i) v) (now_was (state i) v) in (
          now_there.0,
          now_there.1,
          node_keeps (state j) v at (log_up_to at node.log)
              (stays (state j) (inv j) v (now (state i) v) before at (log_up_to at node.log) has had (winners_have j))
              (stays_then (state j) (inv j) v (now (state i) v) before at (log_up_to at node.log) has had (winners_have j))
              now_there.0 node_is.0 node_is.1,
        )

pub not_lost : (sizes : Sizes) (events : List Event) → AreSizes sizes → IsRun sizes events → Safe sizes events → LogsRise sizes events → LeadersKeep sizes events → EntriesAreWritten sizes events
    → NumbersStaySmall sizes events → AcknowledgedEntriesAreNotLost sizes events
not_lost sizes events are is safe logs keep written small k n event at answers majority node node_at i v member there have =
    let acks : AckedAt sizes events safe logs keep written k n at node = acked_at sizes events safe logs keep written k n event at answers majority node node_at in
    keeps_from sizes events are is k n at node node_at acks.leads.term_is acks.has acks.within small i v member there have
