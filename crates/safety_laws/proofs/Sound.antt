-- What the next step of a node that is up can rely on holds in every run.
use Rattle.std.proofs.Common.{◌≡◌, ◌≤◌, inl, inr, refl, sym, subst, arith, ℕ, true, Some, None, List, length}
use Rattle.std.specs.FinMap as maps
use Rattle.std.proofs.lemmas.Bool.{cases_Bool}
use Rattle.rs_optime.specs.declared.optime.OpTime.{OpTime}
use Rattle.rs_optime.specs.Membership.{In}
use Rattle.rs_optime.proofs.MembershipLemmas.{in_all}
use Rattle.oplog_entry.specs.Lawful.{IsLawful, IsLawfulOp}
use Rattle.oplog_entry.specs.declared.entry.Entry.{Entry}
use Rattle.oplog_entry.specs.declared.entry.Op.{Op}
use Rattle.oplog_store.specs.Log.{IsOplog, with_entry}
use Rattle.repl_msg.specs.Kept.{kept, with_entries}
use Rattle.set_model.specs.declared.command.Event.{Event}
use Rattle.set_model.specs.declared.writer.Writer.TheVariants.{Open}
use Rattle.set_model.specs.Disk.{next_entries}
use Rattle.set_model.specs.Limits.{IsRun}
use Rattle.set_model.specs.Node.{Node}
use Rattle.set_model.specs.Points.{visible_log}
use Rattle.set_model.specs.Roles.{is_primary}
use Rattle.set_model.specs.Run.{Sizes, AreSizes}
use Rattle.set_model.specs.Safety as safety
use Rattle.commit_machine.specs.Words.{Has, Rises}
use Rattle.commit_machine.proofs.Growth.{in_append}
use Rattle.safety_laws.specs.Replies as replies
use Rattle.safety_laws.specs.Sound.{IsSoundNode, NodesAreSound}
use Rattle.safety_laws.proofs.FitNodes.{IsFitSession}
use Rattle.safety_laws.proofs.FitRuns.{fit_at, fit_run}
use Rattle.safety_laws.proofs.Flushes.{merged_in, merged_rises}
use Rattle.safety_laws.proofs.Frame.{RowsTied, DeliveriesTied}
use Rattle.safety_laws.proofs.Merges.{in_entry}
use Rattle.safety_laws.proofs.Rel.{IsSlot, IsUp, ledger_of, snapshot_of}
use Rattle.safety_laws.proofs.Replies.{pairs_of, written_at}
use Rattle.safety_laws.proofs.Runs.{had_of, state_of, up_of}
use Rattle.safety_laws.proofs.Slots.{rises_with}
use Rattle.safety_laws.proofs.Steps.{hidden_of_primary, in_has, primary_leads}
use Rattle.safety_laws.proofs.TermBounds.{term_bound}
use Rattle.safety_laws.proofs.Visibles.{hidden_log, hidden_terms, visible_splits}

oplog_of : (log : List Entry) → Rises log → ((entry : Entry) → In entry log → IsLawful entry) → IsOplog log
oplog_of log rises lawful = record { order = pairs_of log rises; lawful = in_all IsLawful log lawful }

module _ (rows_tied : RowsTied) (deliveries_tied : DeliveriesTied) (sizes : Sizes) (events : List Event) (are : AreSizes sizes) (is : IsRun sizes events) where
  -- what a leader wrote in its term is lawful
  led_lawful : (place number : ℕ) (leader : Node) (entry : Entry) → place ≤ 4294967295 → safety.Leads sizes events place number entry.optime.term leader → In entry leader.log → IsLawful entry
  led_lawful place number leader entry early leads there =
      let ops : IsLawfulOp entry.op × replies.IsWithinEntry entry × IsFitSession entry.op entry.session =
      (fit_run rows_tied deliveries_tied sizes events are is).ops place number entry.optime.term leader leads entry there refl in
      let term : leader.term ≤ place = term_bound sizes events place number leader leads.at.there in
      let same : leader.term ≡ entry.optime.term = leads.term_is in
      record { term = omega (arith, early, term, same); op = ops.0; session = ops.2.0; write = ops.2.1 }

  module _ (place number : ℕ) (node : Node) (early : place ≤ 4294967295) (here : safety.IsAt sizes events place number node) where
    up : IsUp (state_of rows_tied deliveries_tied sizes events are is place) node
    up = (up_of rows_tied deliveries_tied sizes events are is place number node here).1

    -- each entry of the log was written by a leader of its term, which may be the node
    log_lawful : (entry : Entry) → In entry node.log → IsLawful entry
    log_lawful entry there = elim (in_append entry (visible_log node) (hidden_log node) (subst (λ (l : List Entry). In entry l) (visible_splits node up.log) there)) [
      | inl visible ↦
          let by = written_at rows_tied deliveries_tied sizes events are is place number (snapshot_of node)
          (had_of rows_tied deliveries_tied sizes events are is place place number node here (omega arith)) entry visible in
          let order : by.0 ≤ place = by.3 in
          led_lawful by.0 by.1 by.2 entry (omega (arith, order, early)) by.4 by.5
      | inr hidden ↦
          let has : Has entry.optime (hidden_log node) = in_has entry (hidden_log node) hidden in
          led_lawful place number node entry early
          (record {
            at = here;
            term_is = sym (hidden_terms node up.log entry.optime has);
            role = primary_leads node.role (hidden_of_primary node up.log entry.optime has).0;
          }) there
    ]

    -- only a primary has open writers
    writes : (writer : ℕ) (at : OpTime) (op : Op) → maps.get node.writers writer ≡ Some (Open at op) → is_primary node.role ≡ true
    writes writer at op found = elim (cases_Bool (is_primary node.role)) [
      | inl primary ↦ primary
      | inr none ↦ absurd (subst (λ items. In at items) (up.log.none none) (up.log.open_ones writer at op found))
    ]

    open_lawful : (writer : ℕ) (at : OpTime) (op : Op) → maps.get node.writers writer ≡ Some (Open at op) → IsLawful (record { optime = at; op = op; session = None })
    open_lawful writer at op found =
        let slot : IsSlot (ledger_of node) at = up.log.slots at (up.log.open_ones writer at op found) in
        let term : node.term ≤ place = term_bound sizes events place number node here.there in
        let same : at.term ≡ node.term = slot.term in
        record {
          term = omega (arith, early, term, same);
          op = (((fit_at rows_tied deliveries_tied sizes events are is place number node here).ready (writes writer at op found)).open_ops writer at op found).fit.0;
          session = tt;
          write = tt;
        }

    with_open : (writer : ℕ) (at : OpTime) (op : Op) → maps.get node.writers writer ≡ Some (Open at op) → IsOplog (with_entry node.log (record { optime = at; op = op; session = None }))
    with_open writer at op found =
        let slot : IsSlot (ledger_of node) at = up.log.slots at (up.log.open_ones writer at op found) in
        let entry : Entry = record { optime = at; op = op; session = None } in
        oplog_of (with_entry node.log entry) (rises_with node.log entry up.log.rises slot.place)
        (λ one there. elim (in_entry one node.log entry there) [
          | inl old ↦ log_lawful one old
          | inr new ↦ subst (λ (e : Entry). IsLawful e) new (open_lawful writer at op found)
        ])

    sound : IsSoundNode node
    sound = record {
      doubt = up.doubt;
      oplog = oplog_of node.log up.log.rises log_lawful;
      terms = in_all (λ (entry : Entry). entry.optime.term ≤ node.term) node.log (λ entry there. up.log.terms entry.optime (in_has entry node.log there));
      marked = in_all (λ (entry : Entry). entry.optime.ts ≤ node.seen) node.log (λ entry there. up.log.seen entry.optime (in_has entry node.log there));
      kept_oplog = oplog_of (kept node.records).entries up.records.rises (λ entry there. log_lawful entry (up.written entry there));
      flushes = oplog_of (with_entries (kept node.records).entries (next_entries node))
          (merged_rises (kept node.records).entries node.log up.records.rises up.log.rises up.written 2000)
          (λ entry there. log_lawful entry (merged_in (kept node.records).entries node.log up.records.rises up.log.rises up.written 2000 entry there));
      writers = with_open;
    }

  pub nodes_sound : NodesAreSound sizes events
  nodes_sound number node short here = sound (length events) number node short here
