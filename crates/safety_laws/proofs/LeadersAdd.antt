-- A leader has what it won with, and entries of its own term.
use Rattle.std.proofs.Common.{◌≡◌, ◌∙◌, ◌<◌, ◌+◌, inl, inr, ap, sym, subst, arith, ℕ, not, List}
use Rattle.rs_optime.specs.declared.optime.OpTime.{OpTime}
use Rattle.rs_optime.specs.Membership.{In}
use Rattle.rs_optime.proofs.Optimes.{at_most_trans, before_at_most, earlier_term, not_both}
use Rattle.oplog_entry.specs.declared.entry.Entry.{Entry}
use Rattle.oplog_entry.specs.Visible.{is_before, log_up_to}
use Rattle.set_model.specs.declared.command.Event.{Event}
use Rattle.set_model.specs.Limits.{IsRun}
use Rattle.set_model.specs.Node.{Node}
use Rattle.set_model.specs.Points.{visible_log}
use Rattle.set_model.specs.Run.{Sizes, AreSizes}
use Rattle.set_model.specs.Safety as safety
use Rattle.commit_machine.specs.Words.{AtMost, Has, IsPointOf}
use Rattle.commit_machine.specs.Nodes.{Snapshot, State, Was}
use Rattle.commit_machine.proofs.Facts.{HasOrigin, HasWon, Invariant}
use Rattle.commit_machine.proofs.Growth.{in_append, in_left}
use Rattle.safety_laws.specs.Logs.{LeadersAddTheirOwn, LeadersHadWhatIsBefore}
use Rattle.safety_laws.proofs.Frame.{RowsTied, DeliveriesTied}
use Rattle.safety_laws.proofs.Merges.{into_filter}
use Rattle.safety_laws.proofs.Parts.{in_has}
use Rattle.safety_laws.proofs.Rel.{HasLog, snapshot_of}
use Rattle.safety_laws.proofs.Runs.{had_of, kept_of, state_of, up_of}
use Rattle.safety_laws.proofs.Seen.{has_seen, hidden_past}
use Rattle.safety_laws.proofs.Steps.{leads_of}
use Rattle.safety_laws.proofs.Visibles.{hidden_log, hidden_terms, visible_splits}

-- ---- what is won, seen and hidden

-- an entry of an earlier term it won with
older_won : (state : State) (n : ℕ) (y : Snapshot) (won : HasWon state n y) (entry : Entry) → In entry y.log → entry.optime.term < y.term → In entry won.win.log
older_won state n y won entry there older = elim (in_append entry won.win.log won.rest (subst (λ (l : List Entry). In entry l) won.log there)) [
  | inl before ↦ before
  | inr since ↦ let own : entry.optime.term ≡ y.term = won.own entry.optime (in_has entry won.rest since) in absurd (omega (arith, own, older))
]

won_there : (state : State) (n : ℕ) (y : Snapshot) (won : HasWon state n y) (entry : Entry) → In entry won.win.log → In entry y.log
won_there state n y won entry there = subst (λ (l : List Entry). In entry l) (sym won.log) (in_left entry won.win.log won.rest there)

seen_there : (node : Node) → HasLog node → (entry : Entry) → In entry (visible_log node) → In entry node.log
seen_there node log entry there = subst (λ (l : List Entry). In entry l) (sym (visible_splits node log)) (in_left entry (visible_log node) (hidden_log node) there)

-- what is of an earlier term is visible
older_seen : (node : Node) → HasLog node → (entry : Entry) → In entry node.log → entry.optime.term < node.term → In entry (visible_log node)
older_seen node log entry there older = elim (in_append entry (visible_log node) (hidden_log node) (subst (λ (l : List Entry). In entry l) (visible_splits node log) there)) [
  | inl seen ↦ seen
  | inr hidden ↦ let own : entry.optime.term ≡ node.term = hidden_terms node log entry.optime (in_has entry (hidden_log node) hidden) in absurd (omega (arith, own, older))
]

-- what is at or before a visible point is visible
early_seen : (node : Node) → HasLog node → (point : OpTime) → IsPointOf point (visible_log node) → (entry : Entry) → In entry node.log → AtMost entry.optime point → In entry (visible_log node)
early_seen node log point is entry there within = elim (in_append entry (visible_log node) (hidden_log node) (subst (λ (l : List Entry). In entry l) (visible_splits node log) there)) [
  | inl seen ↦ seen
  | inr hidden ↦ absurd (not_both point entry.optime (hidden_past node log point entry.optime is (in_has entry (hidden_log node) hidden)) within)
]

-- ---- the laws

module _ (rows_tied : RowsTied) (deliveries_tied : DeliveriesTied) (sizes : Sizes) (events : List Event) (are : AreSizes sizes) (is : IsRun sizes events) where
  abbrev at_place : ℕ → State
  at_place place = state_of rows_tied deliveries_tied sizes events are is place

  kept : (place : ℕ) → Invariant (at_place place)
  kept place = kept_of rows_tied deliveries_tied sizes events are is place

  log_of : (place number : ℕ) (node : Node) → safety.IsAt sizes events place number node → HasLog node
  log_of place number node at = (up_of rows_tied deliveries_tied sizes events are is place number node at).1.log

  -- whoever leads at one of two places, as the machine has it at both
  won_first : (i j n term : ℕ) (node : Node) → safety.Leads sizes events i n term node → HasWon (at_place (i + j)) n (snapshot_of node)
  won_first i j n term node leads =
      (kept (i + j)).leader_won n (snapshot_of node) (had_of rows_tied deliveries_tied sizes events are is i (i + j) n node leads.at (omega arith)) (leads_of node.role leads.role)

  won_second : (i j n term : ℕ) (node : Node) → safety.Leads sizes events j n term node → HasWon (at_place (i + j)) n (snapshot_of node)
  won_second i j n term node leads =
      (kept (i + j)).leader_won n (snapshot_of node) (had_of rows_tied deliveries_tied sizes events are is j (i + j) n node leads.at (omega arith)) (leads_of node.role leads.role)

  pub leaders_add_their_own : LeadersAddTheirOwn sizes events
  leaders_add_their_own i j n term one two first second entry there older =
      let here : HasWon (at_place (i + j)) n (snapshot_of one) = won_first i j n term one first in
      let other : HasWon (at_place (i + j)) n (snapshot_of two) = won_second i j n term two second in
      let below : entry.optime.term < two.term = (let own : two.term ≡ term = second.term_is in omega (arith, own, older)) in
      let won : In entry other.win.log = older_won (at_place (i + j)) n (snapshot_of two) other entry
      (older_seen two (log_of j n two second.at) entry there below) below in
      let same : other.win ≡ here.win = (kept (i + j)).win_once other.win here.win other.won here.won
      (other.term ∙ second.term_is ∙ sym first.term_is ∙ sym here.term) in
      seen_there one (log_of i n one first.at) entry
      (won_there (at_place (i + j)) n (snapshot_of one) here entry (subst (λ w. In entry w.log) same won))

  pub leaders_had_what_is_before : LeadersHadWhatIsBefore sizes events
  leaders_had_what_is_before i j n m node leader entry before at there within before_there older leads =
      let state : State = at_place (i + j) in
      let log : HasLog node = log_of i n node at in
      let was : Was state n (snapshot_of node) = had_of rows_tied deliveries_tied sizes events are is i (i + j) n node at (omega arith) in
      let point : IsPointOf node.commit (visible_log node) = ((kept (i + j)).points n (snapshot_of node) was).commit in
      let shown : Has entry.optime (visible_log node) = has_seen node log entry.optime node.commit (in_has entry node.log there) within point in
      let origin : HasOrigin state (visible_log node) entry.optime = (kept (i + j)).origin n (snapshot_of node) was entry.optime shown in
      let earlier : AtMost before.optime entry.optime = before_at_most before.optime entry.optime (earlier_term before.optime entry.optime older) in
      let seen : In before (visible_log node) = early_seen node log node.commit point before before_there (at_most_trans before.optime entry.optime node.commit earlier within) in
      let up_to : In before (log_up_to entry.optime (visible_log node)) =
      into_filter (λ (e : Entry). not (is_before entry.optime e.optime)) before (visible_log node) seen (ap not earlier) in
      let led : In before origin.node.log = subst (λ (l : List Entry). In before l) (sym origin.begins.1) (in_left before (log_up_to entry.optime (visible_log node)) origin.begins.0 up_to) in
      let first : HasWon state origin.number origin.node = (kept (i + j)).leader_won origin.number origin.node origin.was (inr origin.role) in
      let won : In before first.win.log = older_won state origin.number origin.node first before led (let own : origin.node.term ≡ entry.optime.term = origin.term in omega (arith, own, older)) in
      let second : HasWon state m (snapshot_of leader) = won_second i j m entry.optime.term leader leads in
      let same : first.win ≡ second.win = (kept (i + j)).win_once first.win second.win first.won second.won
      (first.term ∙ origin.term ∙ sym leads.term_is ∙ sym second.term) in
      seen_there leader (log_of j m leader leads.at) before
      (won_there state m (snapshot_of leader) second before (subst (λ w. In before w.log) same won))
