-- What is committed is one chain of logs.
use Rattle.std.proofs.Common.{◌+◌, ◌<◌, ◌≤◌, inl, inr, subst, arith, ℕ, List}
use Rattle.rs_optime.specs.declared.optime.OpTime.{OpTime}
use Rattle.rs_optime.specs.Membership.{In}
use Rattle.rs_optime.proofs.Optimes.{at_most_refl, before_both, earlier_left, earlier_term}
use Rattle.oplog_entry.specs.declared.entry.Entry.{Entry}
use Rattle.oplog_entry.specs.Visible.{ZERO, log_up_to}
use Rattle.set_model.specs.declared.command.Event.{Event}
use Rattle.set_model.specs.Limits.{IsRun}
use Rattle.set_model.specs.Node.{Node}
use Rattle.set_model.specs.Points.{applied_point, next_optime, visible_log}
use Rattle.set_model.specs.Run.{Sizes, AreSizes}
use Rattle.set_model.specs.Safety as safety
use Rattle.set_model.proofs.SeenLemmas.{next_past}
use Rattle.commit_machine.specs.Nodes.{State, Was}
use Rattle.commit_machine.specs.Words.{AtMost, Begins}
use Rattle.commit_machine.proofs.Consequences.{commits_agree}
use Rattle.commit_machine.proofs.Growth.{in_append}
use Rattle.commit_machine.proofs.Lists.{branch_of, up_to_up_to}
use Rattle.safety_laws.specs.Chains.{CommittedLogsChain, MajorityReadsChain}
use Rattle.safety_laws.specs.Logs.{EntriesFollowZero, NextOptimesAreLast}
use Rattle.safety_laws.proofs.Frame.{RowsTied, DeliveriesTied}
use Rattle.safety_laws.proofs.Parts.{in_has}
use Rattle.safety_laws.proofs.Rel.{HasLog, snapshot_of}
use Rattle.safety_laws.proofs.Runs.{had_of, kept_of, state_of, up_of}
use Rattle.safety_laws.proofs.Stays.{seen_up_to}
use Rattle.safety_laws.proofs.Steps.{after_zero, hidden_of_primary}
use Rattle.safety_laws.proofs.Visibles.{hidden_log, visible_splits}

module _ (rows_tied : RowsTied) (deliveries_tied : DeliveriesTied) (sizes : Sizes) (events : List Event) (are : AreSizes sizes) (is : IsRun sizes events) where
  log_of : (place number : ℕ) (node : Node) → safety.IsAt sizes events place number node → HasLog node
  log_of place number node at = (up_of rows_tied deliveries_tied sizes events are is place number node at).1.log

  -- a log up to a commit point, or up to less, is part of what the machine has up to it
  up_to_commit : (place number : ℕ) (node : Node) → safety.IsAt sizes events place number node → (at : OpTime) → AtMost at node.commit
      → Begins (log_up_to at node.log) (log_up_to node.commit (visible_log node))
  up_to_commit place number node at point within =
      subst (λ (l : List Entry). Begins (log_up_to point node.log) l)
      (seen_up_to rows_tied deliveries_tied sizes events are is place number node at node.commit (at_most_refl node.commit))
      (up_to_up_to point node.commit node.log (log_of place number node at).rises within)

  pub committed_logs_chain : CommittedLogsChain sizes events
  committed_logs_chain i j n m one two first second at other within within_too =
      let state : State = state_of rows_tied deliveries_tied sizes events are is (i + j) in
      branch_of (log_up_to at one.log) (log_up_to other two.log) (log_up_to one.commit (visible_log one)) (log_up_to two.commit (visible_log two))
      (up_to_commit i n one first at within) (up_to_commit j m two second other within_too)
      (commits_agree state (kept_of rows_tied deliveries_tied sizes events are is (i + j))
      n (snapshot_of one) (had_of rows_tied deliveries_tied sizes events are is i (i + j) n one first (omega arith))
      m (snapshot_of two) (had_of rows_tied deliveries_tied sizes events are is j (i + j) m two second (omega arith)))

  pub majority_reads_chain : MajorityReadsChain sizes events
  majority_reads_chain i j n m one two first second =
      committed_logs_chain i j n m one two first second _ _ (earlier_left one.commit (applied_point one)) (earlier_left two.commit (applied_point two))

  pub entries_follow_zero : EntriesFollowZero sizes events
  entries_follow_zero place number node at entry there =
      let log : HasLog node = log_of place number node at in
      elim (in_append entry (visible_log node) (hidden_log node) (subst (λ (l : List Entry). In entry l) (visible_splits node log) there)) [
        | inl seen ↦
            let was : Was (state_of rows_tied deliveries_tied sizes events are is place) number (snapshot_of node) =
            had_of rows_tied deliveries_tied sizes events are is place place number node at (omega arith) in
            earlier_term ZERO entry.optime ((kept_of rows_tied deliveries_tied sizes events are is place).log_terms number (snapshot_of node) was entry.optime (in_has entry (visible_log node) seen)).0
        | inr hidden ↦ after_zero entry.optime (hidden_of_primary node log entry.optime (in_has entry (hidden_log node) hidden)).1
      ]

  pub next_optimes_are_last : NextOptimesAreLast sizes events
  next_optimes_are_last place number node at entry there =
      let log : HasLog node = log_of place number node at in
      let seen : entry.optime.ts ≤ node.seen = log.seen entry.optime (in_has entry node.log there) in
      let later : node.seen < (next_optime node).ts = next_past node in
      before_both entry.optime (next_optime node) (log.terms entry.optime (in_has entry node.log there)) (omega (arith, seen, later))
