-- What is committed at a node, and so what a majority read shows, a log that is confirmed later begins with.
use Rattle.std.proofs.Common.{◌≡◌, ◌≤◌, inl, inr, ap, sym, subst, arith, refl, ℕ, List, [], ◌++◌}
use Rattle.std.proofs.lemmas.Bool.{cases_order}
use Rattle.rs_optime.specs.declared.optime.OpTime.{OpTime}
use Rattle.rs_optime.proofs.Optimes.{at_most_before_trans, at_most_or_before, before_at_most_trans, earlier_left, not_both}
use Rattle.oplog_entry.specs.Visible.{ZERO, log_up_to}
use Rattle.oplog_entry.specs.declared.entry.Entry.{Entry}
use Rattle.set_model.specs.declared.command.Event.{Event}
use Rattle.set_model.specs.Node.{Node}
use Rattle.set_model.specs.Points.{applied_point}
use Rattle.set_model.specs.Roles.{is_leading}
use Rattle.set_model.specs.Run.{Sizes}
use Rattle.set_model.specs.Safety.{IsAt, IsCommitted, Leads, Safe, WasCommitted, WinnersAreComplete}
use Rattle.commit_machine.specs.Words.{AtMost, Before, Begins, Rises}
use Rattle.commit_machine.proofs.Lists.{begins_trans, up_to_begins, up_to_none, up_to_up_to}
use Rattle.safety_laws.specs.Logs.{EntriesFollowZero, LeadersKeep, LogsRise}
use Rattle.safety_laws.proofs.Merges.{has_in_of}
use Rattle.linear_read.specs.Linear.{IsConfirmed}
use Rattle.linear_read.specs.Written.{EntriesAreWritten}
use Rattle.linear_read.proofs.LinearReads.{note_is_new, rises, same_node}
use Rattle.client_laws.specs.Linearizable.{MajorityReadsAreShown}
use Rattle.client_laws.proofs.Exact.{has_note, here}

module _ (sizes : Sizes) (events : List Event) (safe : Safe sizes events) (logs : LogsRise sizes events) (keeps : LeadersKeep sizes events) (written : EntriesAreWritten sizes events)
    (zero_first : EntriesFollowZero sizes events) (complete : WinnersAreComplete sizes events) where
  rising : (place number : ℕ) (node : Node) → IsAt sizes events place number node → Rises node.log
  rising = rises sizes events safe logs keeps written

  -- nothing is up to ZERO
  none_up_to : (place number : ℕ) (node : Node) → IsAt sizes events place number node → (at : OpTime) → AtMost at ZERO → log_up_to at node.log ≡ []
  none_up_to place number node node_at at within = up_to_none at node.log (λ o has.
      let found : (entry : Entry) × _ × (entry.optime ≡ o) = has_in_of o node.log has in
      at_most_before_trans at ZERO o within (subst (λ p. Before ZERO p) found.2 (zero_first place number node node_at found.0 found.1)))

  module _ (i j n m : ℕ) (reader node : Node) (order : i ≤ j) (reader_at : IsAt sizes events i n reader) (confirmed : IsConfirmed sizes events j m node) where
    leads_here : Leads sizes events j m confirmed.at.term node
    leads_here = here sizes events safe logs keeps written j m node confirmed

    -- what a primary had committed by then
    module _ (h k : ℕ) (primary : Node) (early : h ≤ i) (committed : IsCommitted sizes events h k primary reader.commit) where
      leads_too : Leads sizes events h k primary.term primary
      leads_too = record { at = committed.node_at; term_is = refl; role = ap is_leading committed.role }

      own_log : k ≡ m → Begins (log_up_to reader.commit primary.log) node.log
      own_log one = elim (cases_order h j) [
        | inl level ↦ subst (λ (l : Node). Begins (log_up_to reader.commit primary.log) l.log)
            (same_node sizes events safe logs keeps written j m primary node (subst (λ p. IsAt sizes events p m primary) level at_own) confirmed.node_at)
            (up_to_begins reader.commit primary.log (rising h k primary committed.node_at))
        | inr apart ↦ elim apart [
          | inl before ↦ begins_trans (log_up_to reader.commit primary.log) (log_up_to primary.commit primary.log) node.log
              (up_to_up_to reader.commit primary.commit primary.log (rising h k primary committed.node_at) committed.commit)
              (safe.no_removal h j m primary node before at_own confirmed.node_at)
          | inr after ↦ absurd (omega (arith, early, order, after))
        ]
      ]
        where
          at_own : IsAt sizes events h m primary
          at_own = subst (λ v. IsAt sizes events h v primary) one committed.node_at

      begins : Begins (log_up_to reader.commit primary.log) node.log
      begins = elim (cases_order primary.term confirmed.at.term) [
        | inl same ↦ own_log (safe.one_primary h j k m confirmed.at.term primary node (subst (λ t. Leads sizes events h k t primary) same leads_too) leads_here)
        | inr apart ↦ elim apart [
          | inl before ↦ complete h j k m confirmed.at.term primary node reader.commit committed leads_here before
          | inr after ↦ absurd (note_is_new sizes events safe logs keeps written j m node confirmed h k primary.term primary (omega (arith, early, order)) leads_too
              (has_note sizes events safe logs keeps written j m node confirmed h k primary.term primary leads_too after))
        ]
      ]

    -- up to a commit point, or up to less
    up_to : (at : OpTime) → AtMost at reader.commit → Begins (log_up_to at reader.log) node.log
    up_to at within = elim (at_most_or_before at ZERO) [
      | inl none ↦ (node.log, ap (λ l. l ++ node.log) (sym (none_up_to i n reader reader_at at none)))
      | inr some ↦ from (safe.committed_stay.points i n reader reader_at (λ zero_is. not_both ZERO reader.commit (before_at_most_trans ZERO at reader.commit some within) (subst (λ o. AtMost o ZERO) (sym zero_is) most))).0
    ]
      where
        most : AtMost ZERO ZERO
        most = refl

        from : WasCommitted sizes events i reader reader.commit → Begins (log_up_to at reader.log) node.log
        from was = begins_trans (log_up_to at reader.log) (log_up_to reader.commit reader.log) node.log
            (up_to_up_to at reader.commit reader.log (rising i n reader reader_at) within)
            (subst (λ (l : List Entry). Begins l node.log) was.5 (begins was.0 was.1 was.2 was.3 was.4))

  pub majority_shown : MajorityReadsAreShown sizes events
  majority_shown i j n m reader node order reader_at confirmed =
      up_to i j n m reader node order reader_at confirmed _ (earlier_left reader.commit (applied_point reader))
