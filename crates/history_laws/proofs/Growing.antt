-- What majority reads show grows while a node stays up, and holds what its last checkpoint did.
use Rattle.std.proofs.Common.{◌≡◌, ◌∙◌, ◌≤◌, inl, inr, ap, sym, subst, refl, arith, ℕ, zero, suc, Bool, true, false, slice_get, List, ◌++◌}
use Rattle.std.proofs.lemmas.Bool.{cases_eq, cases_order}
use Rattle.std.proofs.lemmas.Option.{same_Some}
use Rattle.rs_optime.specs.Order.{AtMost}
use Rattle.rs_optime.specs.declared.optime.OpTime.{OpTime}
use Rattle.rs_optime.proofs.Optimes.{at_most_earlier, at_most_refl, at_most_trans, earlier_left}
use Rattle.oplog_entry.specs.Visible.{last_of, log_up_to}
use Rattle.oplog_entry.specs.declared.entry.Entry.{Entry}
use Rattle.oplog_entry.proofs.Optimes.{zero_at_most}
use Rattle.member_config.specs.Config.{first_config}
use Rattle.set_model.specs.declared.command.Event.{Event}
use Rattle.set_model.specs.declared.command.ReadLevel.TheVariants.{Majority}
use Rattle.set_model.specs.declared.role.Role.{Role}
use Rattle.set_model.specs.declared.role.Role.TheVariants as roles
use Rattle.set_model.specs.Limits.{IsRun}
use Rattle.set_model.specs.Node.{Node}
use Rattle.set_model.specs.Points.{applied_point, if_primary, visible_log, visible_point}
use Rattle.set_model.specs.Reads.{shown_log}
use Rattle.set_model.specs.Roles.{is_primary}
use Rattle.set_model.specs.Run.{AreSizes, Sizes, world_at}
use Rattle.set_model.specs.Safety.{IsAt, RollbacksKeep, Safe}
use Rattle.commit_machine.specs.Words.{Begins, Has, Rises}
use Rattle.commit_machine.proofs.Facts.{HasPoints}
use Rattle.commit_machine.proofs.Lists.{at_most_last, begins_refl, begins_trans, up_to_all, up_to_append, up_to_begins, up_to_has, up_to_up_to}
use Rattle.safety_laws.proofs.Delivers.{deliveries_tied}
use Rattle.safety_laws.proofs.Opening.{get_from}
use Rattle.safety_laws.proofs.Rel.{IsStable, IsUp, snapshot_of}
use Rattle.safety_laws.proofs.Rows.{rows_tied}
use Rattle.safety_laws.proofs.Runs.{had_of, kept_of, state_of, up_of}
use Rattle.history_laws.specs.Growing.{CheckpointsAreShown, MajorityReadsGrow, StaysUp}
use Rattle.history_laws.proofs.PointRuns.{CameAt, points_at}
use Rattle.history_laws.proofs.Points.{Kept, shown_point}
use Rattle.history_laws.proofs.Seen.{has_seen}

-- ---- the applied point

-- on a primary as far as it is visible, on any other node as far as it is applied
by_role : (node : Node) (o : OpTime) → (is_primary node.role ≡ true → AtMost o (visible_point node)) → (is_primary node.role ≡ false → AtMost o node.applied) → AtMost o (applied_point node)
by_role node o primary other = go node.role refl
  where
    go : (role : Role) → node.role ≡ role → AtMost o (if_primary role (visible_point node) node.applied)
    go roles.Primary is = primary (ap is_primary is)
    go roles.Secondary is = other (ap is_primary is)
    go roles.Candidate is = other (ap is_primary is)
    go roles.Draining is = other (ap is_primary is)

-- a log that another begins with, all of which is at or before an optime
begins_up_to : (front log : List Entry) (at : OpTime) → Begins front log → ((o : OpTime) → Has o front → AtMost o at) → Begins front (log_up_to at log)
begins_up_to front log at begins most =
    (log_up_to at begins.0, ap (log_up_to at) begins.1 ∙ up_to_append at front begins.0 ∙ ap (λ l. l ++ log_up_to at begins.0) (up_to_all at front most))

module _ (sizes : Sizes) (events : List Event) (are : AreSizes sizes) (is : IsRun sizes events) (safe : Safe sizes events) (rollbacks : RollbacksKeep sizes events) where
  up_at : (place number : ℕ) (node : Node) → IsAt sizes events place number node → IsUp (state_of rows_tied deliveries_tied sizes events are is place) node
  up_at place number node at = (up_of rows_tied deliveries_tied sizes events are is place number node at).1

  points : (place number : ℕ) (node : Node) → IsAt sizes events place number node → HasPoints number (snapshot_of node)
  points place number node at = (kept_of rows_tied deliveries_tied sizes events are is place).points number (snapshot_of node) (had_of rows_tied deliveries_tied sizes events are is place place number node at (omega arith))

  seen_rises : (place number : ℕ) (node : Node) → IsAt sizes events place number node → Rises (visible_log node)
  seen_rises place number node at = (kept_of rows_tied deliveries_tied sizes events are is place).log_rises number (snapshot_of node) (had_of rows_tied deliveries_tied sizes events are is place place number node at (omega arith))

  -- a commit point is visible
  commit_seen : (place number : ℕ) (node : Node) → IsAt sizes events place number node → AtMost node.commit (visible_point node)
  commit_seen place number node at = elim (points place number node at).commit [
    | inl zero_is ↦ subst (λ (o : OpTime). AtMost o (visible_point node)) (sym zero_is) (zero_at_most (visible_point node))
    | inr has ↦ at_most_last node.commit (visible_log node) (seen_rises place number node at) has
  ]

  came : (place number : ℕ) (new : Node) → IsAt sizes events (suc place) number new → CameAt (world_at sizes events place) number new
  came place number new at = points_at sizes events are is rollbacks place number new at.there

  -- ---- one event

  module _ (place number : ℕ) (old new : Node) (at : IsAt sizes events place number old) (next : IsAt sizes events (suc place) number new) where
    kept : Kept old new
    kept =
        let from : CameAt (world_at sizes events place) number new = came place number new next in
        let old_is : from.0 ≡ old = same_Some from.0 old (sym from.1 ∙ at.there) in
        subst (λ n. Kept n new) old_is (from.2.kept (ap (λ (n : Node). n.up) old_is ∙ at.up) next.up)

    shown_low : AtMost (shown_point old) new.commit
    shown_low = at_most_trans (shown_point old) old.commit new.commit (earlier_left old.commit (applied_point old)) kept.commit

    grows_once : AtMost (shown_point old) (shown_point new)
    grows_once = at_most_earlier (shown_point old) new.commit (applied_point new) shown_low
        (by_role new (shown_point old) (λ primary. at_most_trans (shown_point old) new.commit (visible_point new) shown_low (commit_seen (suc place) number new next)) kept.applied)

  -- ---- many events

  same_point : (place number : ℕ) (one two : Node) → IsAt sizes events place number one → IsAt sizes events place number two → AtMost (shown_point one) (shown_point two)
  same_point place number one two first second = subst (λ n. AtMost (shown_point one) (shown_point n)) (same_Some one two (sym first.there ∙ second.there)) (at_most_refl (shown_point one))

  grows : (j i number : ℕ) (one two : Node) → i ≤ j → StaysUp sizes events i j number → IsAt sizes events i number one → IsAt sizes events j number two → AtMost (shown_point one) (shown_point two)
  grows zero i number one two order stays first second =
      let same : i ≡ 0 = omega (arith, order) in same_point 0 number one two (subst (λ p. IsAt sizes events p number one) same first) second
  grows (suc j) i number one two order stays first second = elim (cases_eq i (suc j)) [
    | inl same ↦ same_point (suc j) number one two (subst (λ p. IsAt sizes events p number one) same first) second
    | inr other ↦
        let mid : (node : Node) × IsAt sizes events j number node = stays j (omega (arith, order, other)) (omega arith) in
        at_most_trans (shown_point one) (shown_point mid.0) (shown_point two)
        (grows j i number one mid.0 (omega (arith, order, other)) (λ place from until. stays place from (omega (arith, until))) first mid.1) (grows_once j number mid.0 two mid.1 second)
  ]

  pub majority_reads_grow : MajorityReadsGrow sizes events
  majority_reads_grow i j number one two order stays first second = begins_up_to (shown_log one Majority) two.log (shown_point two) begins
      (λ o has. at_most_trans o (shown_point one) (shown_point two) (up_to_has o (shown_point one) one.log has).1 (grows j i number one two order stays first second))
    where
      front : Begins (shown_log one Majority) (log_up_to one.commit one.log)
      front = up_to_up_to (shown_point one) one.commit one.log (up_at i number one first).log.rises (earlier_left one.commit (applied_point one))

      begins : Begins (shown_log one Majority) two.log
      begins = elim (cases_order i j) [
        | inl same ↦
            let both : one ≡ two = same_Some one two (sym first.there ∙ ap (λ p. slice_get (world_at sizes events p).nodes number) same ∙ second.there) in
            begins_trans (shown_log one Majority) one.log two.log (up_to_begins (shown_point one) one.log (up_at i number one first).log.rises) (subst (λ (n : Node). Begins one.log n.log) both (begins_refl one.log))
        | inr apart ↦ elim apart [
          | inl less ↦ begins_trans (shown_log one Majority) (log_up_to one.commit one.log) two.log front (safe.no_removal i j number one two less first second)
          | inr more ↦ absurd (omega (arith, more, order))
        ]
      ]

  -- ---- checkpoints

  stable_is : (place number : ℕ) (node : Node) → IsAt sizes events place number node → IsStable node.stable (snapshot_of node)
  stable_is place number node at = (up_at place number node at).stable

  -- a checkpoint is committed, and visible
  stable_low : (place number : ℕ) (node : Node) → IsAt sizes events place number node → AtMost node.stable node.commit × AtMost node.stable (visible_point node) × AtMost node.stable (last_of node.log)
  stable_low place number node at = elim (stable_is place number node at) [
    | inl zero_is ↦ (
      subst (λ (o : OpTime). AtMost o node.commit) (sym zero_is) (zero_at_most node.commit),
      subst (λ (o : OpTime). AtMost o (visible_point node)) (sym zero_is) (zero_at_most (visible_point node)),
      subst (λ (o : OpTime). AtMost o (last_of node.log)) (sym zero_is) (zero_at_most (last_of node.log)),
    )
    | inr there ↦ (
      there.1,
      at_most_last node.stable (visible_log node) (seen_rises place number node at) there.0,
      at_most_last node.stable node.log (up_at place number node at).log.rises (has_seen node node.stable there.0),
    )
  ]

  -- what was up has applied what it showed; what comes up has applied its log
  module _ (place number : ℕ) (node : Node) (at : IsAt sizes events (suc place) number node) (from : CameAt (world_at sizes events place) number node)
      (before : IsAt sizes events place number from.0 → AtMost from.0.stable (applied_point from.0)) where
    by_up : (up : Bool) → from.0.up ≡ up → is_primary node.role ≡ false → AtMost node.stable node.applied
    by_up false down other = subst (λ (o : OpTime). AtMost node.stable o) (sym (from.2.back down at.up)) (stable_low (suc place) number node at).2
    by_up true up other = elim kept_too.stable [
      | inl same ↦ subst (λ (o : OpTime). AtMost o node.applied) (sym same)
          (at_most_trans from.0.stable (shown_point from.0) node.applied
          (at_most_earlier from.0.stable from.0.commit (applied_point from.0) (stable_low place number from.0 old_at).0 (before old_at)) (kept_too.applied other))
      | inr shown ↦ subst (λ (o : OpTime). AtMost o node.applied) (sym shown) (kept_too.applied other)
    ]
      where
        old_at : IsAt sizes events place number from.0
        old_at = record { there = from.1; up = up }

        kept_too : Kept from.0 node
        kept_too = from.2.kept up at.up

  stable_applied : (place number : ℕ) (node : Node) → IsAt sizes events place number node → AtMost node.stable (applied_point node)
  stable_applied zero number node at = by_role node node.stable (λ primary. (stable_low 0 number node at).1)
      (λ other. subst (λ (n : Node). AtMost n.stable n.applied) (sym (get_from (first_config sizes.voters sizes.members) 0 sizes.nodes number node at.there)) refl)
  stable_applied (suc place) number node at =
      let from : CameAt (world_at sizes events place) number node = came place number node at in
      by_role node node.stable (λ primary. (stable_low (suc place) number node at).1)
      (by_up place number node at from (λ old_at. stable_applied place number from.0 old_at) from.0.up refl)

  pub checkpoints_shown : CheckpointsAreShown sizes events
  checkpoints_shown place number node at =
      up_to_up_to node.stable (shown_point node) node.log (up_at place number node at).log.rises
      (at_most_earlier node.stable node.commit (applied_point node) (stable_low place number node at).0 (stable_applied place number node at))
