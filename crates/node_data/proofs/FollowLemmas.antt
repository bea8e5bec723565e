-- The documents stay those of the log when it is cut, and when versions are pruned.
use Rattle.std.proofs.Common.{◌≡◌, ◌⊎◌, inl, inr, ◌<◌, ◌≤◌, ◌^◌, ◌∙◌, ℕ, Bool, true, false, not, List, [], ◌∷◌, None, refl, sym, ap, subst, arith}
use Rattle.std.specs.Prelude.{slice_index_or}
use Rattle.std.specs.List.{All, AllPairs, list_any}
use Rattle.std.proofs.lemmas.List.Elements.{All-filter}
use Rattle.rs_optime.specs.Later.{same_optime}
use Rattle.rs_optime.specs.Order.{is_before}
use Rattle.rs_optime.specs.declared.optime.OpTime.{OpTime}
use Rattle.rs_optime.proofs.Optimes.{at_most_before_trans, at_most_refl, before_at_most, before_both, earlier_term, later_term}
use Rattle.entry_bytes.specs.Sizes.{IsWithinEntry}
use Rattle.oplog_entry.specs.Log.{StandsBefore}
use Rattle.oplog_entry.specs.Visible.{ZERO, last_of, log_up_to}
use Rattle.oplog_entry.specs.declared.entry.Entry.{Entry}
use Rattle.oplog_entry.specs.declared.entry.Op.{Op}
use Rattle.oplog_entry.proofs.Optimes.{zero_least}
use Rattle.oplog_store.proofs.LogLemmas.{oplog_filter}
use Rattle.repl_msg.specs.Logs.{has_entry}
use Rattle.repl_msg.proofs.HasLemmas.{same_is}
use Rattle.version_store.specs.declared.history.Version.{Version}
use Rattle.version_store.specs.Past.{Past, pruned}
use Rattle.version_store.specs.Store.{Store, versions_at, ChangesEach}
use Rattle.set_model.specs.declared.command.ReadLevel.TheVariants.{Local}
use Rattle.set_model.specs.declared.role.Role.{Role}
use Rattle.set_model.specs.declared.role.Role.TheVariants.{Secondary, Primary}
use Rattle.set_model.specs.Node.{Node}
use Rattle.set_model.specs.Points.{if_primary, applied_point, visible_point}
use Rattle.set_model.specs.Reads.{shown_log}
use Rattle.set_model.specs.Roles.{is_primary}
use Rattle.node_data.specs.Kept.{IsKept, IsHolder, IsPending}
use Rattle.node_data.specs.NodeData.{IsReadable}
use Rattle.node_data.specs.Sound.{IsSound, IsIdle}
use Rattle.node_data.specs.Versions.{HasVersions, AreSmall, IsSmall, versions_of}
use Rattle.node_data.specs.Writers.{HasOpen}
use Rattle.node_data.proofs.HasLemmas.{has_pruned}
use Rattle.node_data.proofs.LogLemmas.{filter-all, up_to-up_to}
use Rattle.node_data.proofs.RoleLemmas.{apart_idle, if_other}
use Rattle.node_data.proofs.ShownLemmas.{shown_order}
use Rattle.node_data.proofs.SoundLemmas.{primary_not, primary_point, stable_before, writing_primary}
use Rattle.node_data.proofs.VersionLemmas.{up_to-from}
use Rattle.node_data.proofs.VisibleLemmas.{SomeEntry, IsBeforeSlots, filter_some, some_fact, some_more, some_to_last, visible_shown}

-- ---- pruned

pub kept_pruned : (node : Node) (store later : Store) (at : OpTime) → IsKept node store → is_before at node.stable ≡ false → is_before (applied_point node) at ≡ false → ChangesEach store later (pruned at)
    → IsKept (record node { stable = at }) later
kept_pruned node store later at kept after within changes = record {
  sound = record {
    oplog = kept.sound.oplog;
    entries = kept.sound.entries;
    documents = kept.sound.documents;
    marked = kept.sound.marked;
    idle = λ not. record { slots = (kept.sound.idle not).slots; writers = (kept.sound.idle not).writers };
    applied = kept.sound.applied;
    stable = within;
  };
  writers = record {
    pending = λ v by other opens.
        let was : IsPending node by other = kept.writers.pending v by other opens in
        record { open_slot = was.open_slot; positive = was.positive; seen = was.seen; term = was.term; unstable = unstable v by other opens was; lawful = was.lawful; within = was.within; place = was.place; small = was.small; newest = was.newest };
    order = kept.writers.order;
    apart = kept.writers.apart;
    alone = kept.writers.alone;
  };
  versions = λ p. subst (λ (past : Past). HasVersions p at (shown_log node Local) past.versions) (sym (changes.each p))
      (has_pruned p node.stable at (shown_log node Local) (versions_at store p) (shown_order node.role node.applied node.log kept.sound.oplog.order) after (kept.versions p));
  holders = λ p. subst (λ h. IsHolder node.writers p h) (sym (ap (λ (past : Past). past.holder) (changes.each p))) (kept.holders p);
  shards = changes.count ∙ kept.shards;
}
  where
    unstable : (v : ℕ) (by : OpTime) (other : Op) → HasOpen node.writers v by other → IsPending node by other → is_before at by ≡ true
    unstable v by other opens was =
        let primary : node.role ≡ Primary = writing_primary node v kept.sound (by, other, opens) in
        elim (visible_shown node.log node.slots at (ap (λ p. is_before p at) (sym (primary_point node.role (visible_point node) node.applied primary)) ∙ within)) [
          | inl none ↦ at_most_before_trans at ZERO by none (before_both ZERO by (omega arith) (omega (arith, was.positive)))
          | inr some ↦ some_fact (is_before at by ≡ true) node.log
              (some_more (λ e. (is_before e at ≡ false) × IsBeforeSlots node.slots e) (λ e. is_before at by ≡ true) node.log (λ e both. at_most_before_trans at e by both.0 (both.1 by was.open_slot)) some)
        ]

-- ---- cut

some_entry : (at : OpTime) (log : List Entry) → has_entry log at ≡ true → SomeEntry (λ e. e ≡ at) log
some_entry at [] has = cc has
some_entry at (entry ∷ log) has = by_test (same_optime entry.optime at) refl has (λ h. some_entry at log h)
  where
    by_test : (b : Bool) → same_optime entry.optime at ≡ b → list_any (λ (e : Entry). same_optime e.optime at) (entry ∷ log) ≡ true → (has_entry log at ≡ true → SomeEntry (λ e. e ≡ at) log) → SomeEntry (λ e. e ≡ at) (entry ∷ log)
    by_test true is has again = inl (same_is entry.optime at is)
    by_test false is has again = inr (again (rw is at has))

-- the log up to one of its entries goes that far
cut_reaches : (point : OpTime) (log : List Entry) → AllPairs StandsBefore (log_up_to point log) → (point ≡ ZERO) ⊎ (has_entry log point ≡ true) → is_before (last_of (log_up_to point log)) point ≡ false
cut_reaches point log order (inl none) = zero_least point (last_of (log_up_to point log)) (ap (λ o. is_before ZERO o) none)
cut_reaches point log order (inr has) = some_to_last point (log_up_to point log) order
    (filter_some (λ e. is_before e point ≡ false) (λ e. not (is_before point e)) log
    (some_more (λ e. e ≡ point) (λ e. (is_before e point ≡ false) × (not (is_before point e) ≡ true)) log
    (λ e same. (ap (λ o. is_before o point) same ∙ at_most_refl point, ap (λ o. not (is_before point o)) same ∙ ap not (at_most_refl point))) (some_entry point log has)))

pub small_up_to : (at : OpTime) (log : List Entry) → AllPairs StandsBefore log → AreSmall log → AreSmall (log_up_to at log)
small_up_to at log order small place =
    subst (λ vs. All (λ (v : Version). IsSmall v.doc) vs) (up_to-from at place None log order)
    (All-filter (λ (v : Version). not (is_before at v.at)) (λ (v : Version). IsSmall v.doc) (versions_of place log) (small place))

pub other_point : {A : Type 0} → (role : Role) (a b : A) → is_primary role ≡ false → if_primary role a b ≡ b
other_point role a b not = if_other role Secondary a b a not refl

pub kept_cut : (node : Node) (store : Store) → IsKept node store → is_primary node.role ≡ false → (node.applied ≡ ZERO) ⊎ (has_entry node.log node.applied ≡ true)
    → IsKept (record node { log = log_up_to node.applied node.log }) store
kept_cut node store kept other is_point =
    let idle : IsIdle node = kept.sound.idle other in
    let at : OpTime = node.applied in
    let oplog = oplog_filter (λ (e : Entry). not (is_before at e.optime)) node.log kept.sound.oplog in
    record {
      sound = record {
        oplog = oplog;
        entries = All-filter (λ (e : Entry). not (is_before at e.optime)) IsWithinEntry node.log kept.sound.entries;
        documents = small_up_to at node.log kept.sound.oplog.order kept.sound.documents;
        marked = All-filter (λ (e : Entry). not (is_before at e.optime)) (λ (e : Entry). e.optime.ts ≤ node.seen) node.log kept.sound.marked;
        idle = λ not. record { slots = idle.slots; writers = idle.writers };
        applied = cut_reaches at node.log oplog.order is_point;
        stable = ap (λ p. is_before p node.stable) (if_other node.role node.role (visible_point (record node { log = log_up_to at node.log })) at (visible_point node) other other) ∙ kept.sound.stable;
      };
      writers = apart_idle (record node { log = log_up_to at node.log }) idle.writers;
      versions = λ p. subst (λ log. HasVersions p node.stable log (versions_at store p))
          (other_point node.role node.log (log_up_to at node.log) other
          ∙ sym (other_point node.role (log_up_to at node.log) (log_up_to at (log_up_to at node.log)) other ∙ up_to-up_to at at node.log (at_most_refl at)))
          (kept.versions p);
      holders = kept.holders;
      shards = kept.shards;
    }

-- ---- after every entry

-- no entry's term goes as far
terms_below : (node : Node) (at : OpTime) → IsSound node → 2 ^ 63 ≤ at.term → All (λ (e : Entry). e.optime.term < at.term) node.log
terms_below node at sound late k d within =
    let fits : (slice_index_or node.log k d).optime.term < 2 ^ 63 = (sound.oplog.lawful k d within).term in
    omega (arith, fits, late)

-- so an optime of such a term is after every entry, and can be read on a primary
pub late_readable : (node : Node) (at : OpTime) → IsSound node → node.role ≡ Primary → 2 ^ 63 ≤ at.term → IsReadable node at
late_readable node at sound primary late = record {
  kept = before_at_most node.stable at
      (stable_before node at sound primary (earlier_term ZERO at (omega (arith, late)))
      (λ k d within. earlier_term (slice_index_or node.log k d).optime at (terms_below node at sound late k d within)));
  reached = λ not. absurd (primary_not node.role primary not);
}

pub late_shown : (node : Node) (at : OpTime) → IsSound node → node.role ≡ Primary → 2 ^ 63 ≤ at.term → log_up_to at node.log ≡ shown_log node Local
late_shown node at sound primary late =
    filter-all (λ (e : Entry). not (is_before at e.optime)) node.log (λ k d within. ap not (later_term at (slice_index_or node.log k d).optime (terms_below node at sound late k d within)))
    ∙ sym (ap (λ r. if_primary r node.log (log_up_to node.applied node.log)) primary)
