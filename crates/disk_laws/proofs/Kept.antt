-- A node's records have what the machine has of it durably, in every image.
use Rattle.std.proofs.Common.{◌≡◌, ◌∙◌, inl, inr, ap, sym, subst, arith, not, ◌&&◌, ◌==◌, eqb-true, ◌≤◌, ℕ, true, Option, None, Some, List, [], ◌∷◌, ◌++◌}
use Rattle.std.proofs.lemmas.Bool.{and_parts, not-true}
use Rattle.rs_optime.specs.Order.{AtMost, is_before}
use Rattle.rs_optime.specs.declared.optime.OpTime.{OpTime}
use Rattle.rs_optime.proofs.Optimes.{at_most_trans}
use Rattle.oplog_entry.specs.Visible.{log_up_to}
use Rattle.oplog_entry.specs.declared.entry.Entry.{Entry}
use Rattle.member_config.specs.declared.config.Config.{Config}
use Rattle.repl_msg.specs.Kept.{kept}
use Rattle.repl_msg.specs.declared.record.Record.{Record}
use Rattle.set_model.specs.declared.command.Event.{Event}
use Rattle.set_model.specs.declared.store.Store.{Store}
use Rattle.set_model.specs.declared.store.Store.TheVariants as stores
use Rattle.set_model.specs.Limits.{IsRun}
use Rattle.set_model.specs.Node.{Node}
use Rattle.set_model.specs.Points.{visible_log}
use Rattle.set_model.specs.Run.{AreSizes, Sizes}
use Rattle.set_model.specs.Safety.{IsCommitted, is_durable_in}
use Rattle.commit_machine.specs.Machine.{Action, IsAllowed, actor, actor_after, after}
use Rattle.commit_machine.specs.Nodes.{Snapshot, State, now}
use Rattle.commit_machine.specs.Words.{Has}
use Rattle.commit_machine.proofs.Facts.{Invariant}
use Rattle.commit_machine.proofs.Growth.{now_actor}
use Rattle.commit_machine.proofs.Keeps.{keeps}
use Rattle.commit_machine.proofs.Lists.{has_up_to, up_to_has, up_to_twice}
use Rattle.safety_laws.specs.Laws.{InEveryRun}
use Rattle.safety_laws.proofs.Delivers.{deliveries_tied}
use Rattle.safety_laws.proofs.Fetches.{entry_is}
use Rattle.safety_laws.proofs.Rel.{AreKept, IsDoubt, IsNode, IsUp, role_of, snapshot_of}
use Rattle.safety_laws.proofs.Rows.{rows_tied}
use Rattle.safety_laws.proofs.Runs.{had_of, kept_of, rel_of, state_of, up_of}
use Rattle.safety_laws.proofs.Steps.{durable_same}
use Rattle.disk_laws.specs.Kept.{CountedEntriesStay, HaveUpTo, Keeps, with_doubt}
use Rattle.disk_laws.proofs.Counted.{Commits, HasKept, WasDurable, has_kept}

-- ---- records

records_have : (items : List Record) (first : Config) (a : Snapshot) (o : OpTime) (log : List Entry) → AreKept items first a → HasKept a o log → HaveUpTo items o log
records_have items first a o log are has = record {
  point = subst (λ (p : OpTime). AtMost o p) (sym are.point) has.durable;
  entries = sym (up_to_twice o a.durable (kept items).entries has.durable) ∙ ap (λ l. log_up_to o l) are.entries ∙ up_to_twice o a.durable a.log has.durable ∙ has.same;
}

-- what a node's machine has durably is what the records give
pub records_say : (items : List Record) (first : Config) (a : Snapshot) (o : OpTime) (log : List Entry) → AreKept items first a → HaveUpTo items o log → HasKept a o log
records_say items first a o log are have =
    let within : AtMost o a.durable = subst (λ (p : OpTime). AtMost o p) are.point have.point in
    record {
      durable = within;
      same = sym (up_to_twice o a.durable a.log within) ∙ ap (λ l. log_up_to o l) (sym are.entries) ∙ up_to_twice o a.durable (kept items).entries within ∙ have.entries;
    }

-- A node has a log up to an optime durably, and also after whatever it does next.
module _ (state : State) (v : ℕ) (o : OpTime) (log : List Entry) (has : HasKept (now state v) o log)
    (has_then : (action : Action) → IsAllowed state action → actor action ≡ v → HasKept (now (after state action) v) o log) where
  -- with a record in doubt the journal has what some action leaves
  doubt_has : (items : List Record) (first : Config) (stable : OpTime) (doubt : Option Store) → AreKept items first (now state v) → IsDoubt state v items first stable doubt → HaveUpTo (with_doubt items doubt) o log
  doubt_has items first stable None are may = records_have items first (now state v) o log are has
  doubt_has items first stable (Some (stores.Checkpoint at)) are may = records_have items first (now state v) o log are has
  doubt_has items first stable (Some (stores.Record item)) are may =
      records_have (items ++ item ∷ []) first (actor_after state may.action) o log may.are_kept
      (subst (λ a. HasKept a o log) (ap (now (after state may.action)) (sym may.own) ∙ now_actor state may.action) (has_then may.action may.allowed may.own))

  pub node_keeps : (node : Node) → node.number ≡ v → IsNode state node → Keeps node o log
  node_keeps node number (inl up) =
      let are : HaveUpTo node.records o log =
      records_have node.records node.first (snapshot_of node) o log up.records
      (subst (λ a. HasKept a o log) (ap (now state) (sym number) ∙ up.snapshot) has) in
      record { without = are; with_it = subst (λ d. HaveUpTo (with_doubt node.records d) o log) (sym up.doubt) are }
  node_keeps node number (inr down) =
      let are : AreKept node.records node.first (now state v) = subst (λ n. AreKept node.records node.first (now state n)) number down.records in
      record {
        without = records_have node.records node.first (now state v) o log are has;
        with_it = doubt_has node.records node.first node.stable node.doubt are (subst (λ n. IsDoubt state n node.records node.first node.stable node.doubt) number down.doubt);
      }

-- ---- runs

-- what a member was durable up to
durable_parts : (sizes : Sizes) (events : List Event) (term : ℕ) (point o : OpTime) (member : Node) → AtMost o point → is_durable_in sizes events term point member ≡ true → WasDurable (snapshot_of member) term o
durable_parts sizes events term point o member within is =
    let one : ((member.term == term) ≡ true) × (((member.durable.term == term) && not (is_before member.durable point)) ≡ true) = and_parts (member.term == term) _ is in
    let two : ((member.durable.term == term) ≡ true) × (not (is_before member.durable point) ≡ true) = and_parts (member.durable.term == term) (not (is_before member.durable point)) one.1 in
    record {
      term_is = eqb-true member.term term one.0;
      durable_term = eqb-true member.durable.term term two.0;
      durable = at_most_trans o point member.durable within (not-true (is_before member.durable point) two.1);
    }

module _ (sizes : Sizes) (events : List Event) (are : AreSizes sizes) (is : IsRun sizes events) (h m : ℕ) (primary : Node) (at : OpTime) (committed : IsCommitted sizes events h m primary at) where
  inv : Invariant (state_of rows_tied deliveries_tied sizes events are is h)
  inv = kept_of rows_tied deliveries_tied sizes events are is h

  up : IsUp (state_of rows_tied deliveries_tied sizes events are is h) primary
  up = (up_of rows_tied deliveries_tied sizes events are is h m primary committed.node_at).1

  -- its term is one that was won
  pub positive : 1 ≤ primary.term
  positive = (inv.self_vote m (snapshot_of primary) (had_of rows_tied deliveries_tied sizes events are is h h m primary committed.node_at (omega arith))
      (λ secondary. absurd (cc (secondary, ap role_of committed.role)))).1

  -- it is durable at the primary itself
  low : AtMost at primary.durable
  low = at_most_trans at primary.commit primary.durable committed.commit
      (inv.points m (snapshot_of primary) (had_of rows_tied deliveries_tied sizes events are is h h m primary committed.node_at (omega arith))).order

  same : log_up_to primary.durable primary.log ≡ log_up_to primary.durable (visible_log primary)
  same = durable_same (state_of rows_tied deliveries_tied sizes events are is h) primary inv up

  pub seen_same : log_up_to at (visible_log primary) ≡ log_up_to at primary.log
  seen_same = sym (up_to_twice at primary.durable (visible_log primary) low) ∙ ap (λ l. log_up_to at l) (sym same) ∙ up_to_twice at primary.durable primary.log low

  pub commits : Commits (snapshot_of primary) at
  commits = record {
    role = ap role_of committed.role;
    has = (up_to_has at primary.durable (visible_log primary) (subst (λ (l : List Entry). Has at l) same (has_up_to at primary.durable primary.log (entry_is primary.log at committed.there) low))).0;
    commit = committed.commit;
  }

pub counted_stay : InEveryRun CountedEntriesStay
counted_stay sizes events are is h m primary at committed i v member member_at durable j node late order there =
    let node_is = (rel_of rows_tied deliveries_tied sizes events are is j).nodes v node there in
    subst (λ (l : List Entry). Keeps node at l) (seen_same sizes events are is h m primary at committed)
    (node_keeps (state_of rows_tied deliveries_tied sizes events are is j) v at (log_up_to at (snapshot_of primary).log)
    (has_kept (state_of rows_tied deliveries_tied sizes events are is j) (kept_of rows_tied deliveries_tied sizes events are is j) m (snapshot_of primary)
    (had_of rows_tied deliveries_tied sizes events are is h j m primary committed.node_at late) at (commits sizes events are is h m primary at committed) v (snapshot_of member)
    (had_of rows_tied deliveries_tied sizes events are is i j v member member_at order) (durable_parts sizes events primary.term committed.point at member committed.before durable))
    (λ action allowed own. has_kept (after (state_of rows_tied deliveries_tied sizes events are is j) action)
    (keeps (state_of rows_tied deliveries_tied sizes events are is j) action allowed (kept_of rows_tied deliveries_tied sizes events are is j)) m (snapshot_of primary)
    (inr (had_of rows_tied deliveries_tied sizes events are is h j m primary committed.node_at late)) at (commits sizes events are is h m primary at committed) v (snapshot_of member)
    (inr (had_of rows_tied deliveries_tied sizes events are is i j v member member_at order)) (durable_parts sizes events primary.term committed.point at member committed.before durable))
    node node_is.0 node_is.1)
