-- What a majority read shows is fit for a new node: it is a part of the visible log, which leaders wrote.
use Rattle.std.proofs.Common.{◌≡◌, ◌≢◌, inl, inr, sym, subst, refl, arith, ℕ, false, not, Option, None, Some, List}
use Rattle.std.specs.FinMap as maps
use Rattle.bson_doc.specs.Place.{Place}
use Rattle.bson_doc.specs.Tree.{Fields}
use Rattle.rs_optime.specs.declared.optime.OpTime.{OpTime}
use Rattle.rs_optime.specs.Membership.{In}
use Rattle.rs_optime.proofs.MembershipLemmas.{in_all, in_filter}
use Rattle.rs_optime.proofs.Optimes.{earlier_cases, earlier_left}
use Rattle.doc_update.proofs.StoredLemmas.{IsStored}
use Rattle.entry_bytes.specs.Sizes.{IsWithinEntry}
use Rattle.oplog_entry.specs.Docs.{docs}
use Rattle.oplog_entry.specs.Visible.{ZERO, is_before, last_of, log_up_to}
use Rattle.oplog_entry.specs.declared.entry.Entry.{Entry}
use Rattle.set_model.specs.declared.command.Event.{Event}
use Rattle.set_model.specs.declared.role.Role.{Role}
use Rattle.set_model.specs.declared.role.Role.TheVariants as roles
use Rattle.set_model.specs.Limits.{IsRun}
use Rattle.set_model.specs.Node.{Node}
use Rattle.set_model.specs.Points.{applied_point, earlier_of, if_primary, visible_log, visible_point}
use Rattle.set_model.specs.Roles.{is_primary}
use Rattle.set_model.specs.Run.{Sizes, AreSizes}
use Rattle.set_model.specs.Safety as safety
use Rattle.commit_machine.specs.Nodes.{Was}
use Rattle.commit_machine.specs.Words.{IsPointOf}
use Rattle.commit_machine.proofs.Facts.{HasPoints}
use Rattle.commit_machine.proofs.Lists.{has_in, last_is_point, last_up_to, up_to_begins}
use Rattle.safety_laws.specs.Majority.{IsFitDocument, IsFitLog, MajorityLogsAreFit}
use Rattle.safety_laws.proofs.FitRuns.{fit_at, fit_run}
use Rattle.safety_laws.proofs.Frame.{RowsTied, DeliveriesTied}
use Rattle.safety_laws.proofs.Rel.{HasLog, snapshot_of}
use Rattle.safety_laws.proofs.Replies.{written_at}
use Rattle.safety_laws.proofs.Runs.{had_of, kept_of, state_of, up_of}
use Rattle.safety_laws.proofs.Seen.{up_to_seen, visible_begins}
use Rattle.safety_laws.proofs.StoredLogs.{AreStored, stored_docs, stored_front}

-- ---- where it ends

of_visible : (node : Node) → HasLog node → (at : OpTime) → IsPointOf at (visible_log node) → IsPointOf at node.log
of_visible node log at (inl zero_is) = inl zero_is
of_visible node log at (inr has) = inr (has_in at (visible_log node) node.log (visible_begins node log) has)

applied_there : (node : Node) → HasLog node → IsPointOf (applied_point node) node.log
applied_there node log = by_role node.role log.applied
  where
    by_role : (role : Role) → (is_primary role ≡ false → IsPointOf node.applied node.log) → IsPointOf (if_primary role (visible_point node) node.applied) node.log
    by_role roles.Secondary applied = applied refl
    by_role roles.Candidate applied = applied refl
    by_role roles.Draining applied = applied refl
    by_role roles.Primary applied = of_visible node log (visible_point node) (last_is_point (visible_log node))

earlier_there : (one two : OpTime) (log : List Entry) → IsPointOf one log → IsPointOf two log → IsPointOf (earlier_of one two) log
earlier_there one two log first second = elim (earlier_cases one two) [
  | inl is ↦ subst (λ o. IsPointOf o log) (sym is.0) first
  | inr is ↦ subst (λ o. IsPointOf o log) (sym is.0) second
]

ends_at : (node : Node) (at : OpTime) → HasLog node → IsPointOf at node.log → at ≢ ZERO → last_of (log_up_to at node.log) ≡ at
ends_at node at log (inl zero_is) above = absurd (above zero_is)
ends_at node at log (inr has) above = last_up_to at node.log log.rises has

-- ---- its documents

fit_document : (place : Place) (found : Option Fields) (document : Fields) → IsStored place found → found ≡ Some document → IsFitDocument place document
fit_document place None document stored is = absurd (cc is)
fit_document place (Some other) document stored is =
    let fit : IsFitDocument place other = record { key = stored.1; small = stored.2 } in
    subst (IsFitDocument place) (cc is) fit

module _ (rows_tied : RowsTied) (deliveries_tied : DeliveriesTied) (sizes : Sizes) (events : List Event) (are : AreSizes sizes) (is : IsRun sizes events) where
  module _ (place number : ℕ) (node : Node) (here : safety.IsAt sizes events place number node) where
    abbrev at : OpTime
    at = earlier_of node.commit (applied_point node)

    abbrev shown : List Entry
    shown = log_up_to at node.log

    log : HasLog node
    log = (up_of rows_tied deliveries_tied sizes events are is place number node here).1.log

    was : Was (state_of rows_tied deliveries_tied sizes events are is place) number (snapshot_of node)
    was = had_of rows_tied deliveries_tied sizes events are is place place number node here (omega arith)

    points : HasPoints number (snapshot_of node)
    points = (kept_of rows_tied deliveries_tied sizes events are is place).points number (snapshot_of node) was

    within : (entry : Entry) → In entry shown → IsWithinEntry entry
    within entry there =
        let seen : In entry (visible_log node) = (in_filter (λ (e : Entry). not (is_before at e.optime)) (visible_log node) entry
        (subst (λ (l : List Entry). In entry l) (up_to_seen node log at node.commit (earlier_left node.commit (applied_point node)) points.commit) there)).0 in
        let by = written_at rows_tied deliveries_tied sizes events are is place number (snapshot_of node) was entry seen in
        ((fit_run rows_tied deliveries_tied sizes events are is).ops by.0 by.1 entry.optime.term by.2 by.4 entry by.5 refl).1

    stored : AreStored shown
    stored = stored_front shown node.log (up_to_begins at node.log log.rises) (fit_at rows_tied deliveries_tied sizes events are is place number node here).stored

    fit : IsFitLog at shown
    fit = record {
      last = ends_at node at log (earlier_there node.commit (applied_point node) node.log (of_visible node log node.commit points.commit) (applied_there node log));
      entries = in_all IsWithinEntry shown within;
      documents = λ p document there. fit_document p (maps.get (docs shown) p) document (stored_docs shown stored p) there;
    }

  pub majority_logs_fit : MajorityLogsAreFit sizes events
  majority_logs_fit place number node here = fit place number node here
