-- The documents stay those of the log while its entries are applied.
use Rattle.std.proofs.Common.{◌≡◌, ◌∙◌, ◌<◌, ◌≤◌, ◌-◌, ap, sym, refl, subst, arith, Bool, true, false, cond, not, ℕ, zero, suc, List, [], ◌∷◌, ◌++◌, Option, Some, append_assoc, append-nil, length, take, drop}
use Rattle.std.specs.Prelude.{slice_get, slice_index_or}
use Rattle.std.specs.List.{All, AllPairs}
use Rattle.std.proofs.lemmas.List.{take-append-drop, get_or-take, length-take}
use Rattle.std.proofs.lemmas.List.Elements.{filter-append, All-filter, All-take, All-drop, All-append}
use Rattle.std.proofs.lemmas.List.Kept.{AllPairs-filter}
use Rattle.std.specs.FinMap.{get}
use Rattle.bson_doc.specs.Place.{Place}
use Rattle.bson_doc.specs.Tree.{Fields}
use Rattle.rs_optime.specs.declared.optime.OpTime.{OpTime}
use Rattle.rs_optime.proofs.Optimes.{at_most_before_trans, at_most_trans, before_at_most, before_both}
use Rattle.batch_applier.specs.Applied.{IsBatch, HasApplied, past_after, past_with}
use Rattle.oplog_entry.specs.Docs.{docs}
use Rattle.oplog_entry.specs.Lawful.{IsLawful}
use Rattle.oplog_entry.specs.Log.{StandsBefore}
use Rattle.oplog_entry.specs.Step.{place_of, document_after}
use Rattle.oplog_entry.specs.Visible.{is_before, last_of, log_up_to}
use Rattle.oplog_entry.specs.declared.entry.Entry.{Entry}
use Rattle.oplog_store.proofs.Keeps.{pairs_head, pairs_tail}
use Rattle.oplog_store.proofs.LogLemmas.{last_is}
use Rattle.repl_msg.specs.Logs.{log_after}
use Rattle.version_store.specs.declared.history.Version.{Version}
use Rattle.version_store.specs.Past.{Past, latest_of, with_version}
use Rattle.version_store.specs.Store.{Store, past_at, versions_at}
use Rattle.oplog_entry.specs.Step.{is_at}
use Rattle.set_model.specs.Node.{Node}
use Rattle.set_model.specs.Points.{visible_point}
use Rattle.set_model.specs.Roles.{is_primary}
use Rattle.node_data.specs.Kept.{IsKept, IsHolder}
use Rattle.node_data.specs.NodeData.{applied_after}
use Rattle.node_data.specs.Sound.{IsIdle, IsSound}
use Rattle.node_data.specs.Versions.{HasVersions, versions_from}
use Rattle.node_data.proofs.FollowLemmas.{other_point}
use Rattle.node_data.proofs.HasLemmas.{has_more, latest-append, latest_has, not_late}
use Rattle.node_data.proofs.LogLemmas.{at_most_last, filter-all, filter-none, filter-passes, last_with, parts}
use Rattle.node_data.proofs.RoleLemmas.{apart_idle}
use Rattle.node_data.proofs.VersionLemmas.{all_versions, none_up_to}

-- ---- a prefix of a log

pairs_take : {X : Type 0} (R : X → X → Type 0) (n : ℕ) (xs : List X) → AllPairs R xs → AllPairs R (take n xs)
pairs_take R n xs pairs i j d less within =
    let long : length (take n xs) ≤ n = omega (arith, length-take n xs) in
    let short : length (take n xs) ≤ length xs = omega (arith, length-take n xs) in
    rw (get_or-take n xs i d (omega arith), get_or-take n xs j d (omega arith)) (pairs i j d less (omega arith))

-- what comes after a prefix is after its last entry
late_rest : (n : ℕ) (log : List Entry) → AllPairs StandsBefore log → 0 < length (take n log) → All (λ (e : Entry). is_before (last_of (take n log)) e.optime ≡ true) (drop n log)
late_rest zero log order some = absurd (omega (arith, some))
late_rest (suc n) [] order some = absurd (omega (arith, some))
late_rest (suc n) (entry ∷ log) order some = by_rest (take n log) refl (λ more. late_rest n log (pairs_tail StandsBefore entry log order) more)
  where
    by_rest : (rest : List Entry) → take n log ≡ rest → (0 < length (take n log) → All (λ (e : Entry). is_before (last_of (take n log)) e.optime ≡ true) (drop n log))
        → All (λ (e : Entry). is_before (last_of (entry ∷ take n log)) e.optime ≡ true) (drop n log)
    by_rest [] is again =
        subst (λ ys. All (λ (e : Entry). is_before (last_of (entry ∷ ys)) e.optime ≡ true) (drop n log)) (sym is)
        (All-drop (λ (e : Entry). is_before entry.optime e.optime ≡ true) n log (λ k d within.
        let stands : StandsBefore entry (slice_index_or log k d) = pairs_head StandsBefore entry log order k d within in
        before_both entry.optime (slice_index_or log k d).optime stands.term stands.earlier))
    by_rest (next ∷ rest) is again =
        subst (λ ys. All (λ (e : Entry). is_before (last_of (entry ∷ ys)) e.optime ≡ true) (drop n log)) (sym is)
        (subst (λ ys. All (λ (e : Entry). is_before (last_of ys) e.optime ≡ true) (drop n log)) is
        (again (subst (λ (ys : List Entry). 0 < length ys) (sym is) (omega arith))))

front_up_to : (n : ℕ) (log : List Entry) → AllPairs StandsBefore log → 0 < length (take n log) → log_up_to (last_of (take n log)) log ≡ take n log
front_up_to n log order some =
    ap (λ l. log_up_to (last_of (take n log)) l) (sym (take-append-drop n log))
    ∙ filter-append (λ (e : Entry). not (is_before (last_of (take n log)) e.optime)) (take n log) (drop n log)
    ∙ ap (λ l. log_up_to (last_of (take n log)) (take n log) ++ l) (none_up_to (last_of (take n log)) (drop n log) (late_rest n log order some))
    ∙ append-nil (log_up_to (last_of (take n log)) (take n log))
    ∙ filter-all (λ (e : Entry). not (is_before (last_of (take n log)) e.optime)) (take n log) (λ k d within. ap not (at_most_last (take n log) (pairs_take StandsBefore n log order) k d within))

front_after : (n : ℕ) (log : List Entry) → AllPairs StandsBefore log → 0 < length (take n log) → log_after (last_of (take n log)) log ≡ drop n log
front_after n log order some =
    ap (λ l. log_after (last_of (take n log)) l) (sym (take-append-drop n log))
    ∙ filter-append (λ (e : Entry). is_before (last_of (take n log)) e.optime) (take n log) (drop n log)
    ∙ ap (λ l. l ++ log_after (last_of (take n log)) (drop n log)) (filter-none (λ (e : Entry). is_before (last_of (take n log)) e.optime) (take n log) (at_most_last (take n log) (pairs_take StandsBefore n log order)))
    ∙ filter-all (λ (e : Entry). is_before (last_of (take n log)) e.optime) (drop n log) (late_rest n log order some)

-- ---- a batch of the entries after an optime

abbrev pub batch_of : ℕ → OpTime → List Entry → List Entry
batch_of n at log = take n (log_after at log)

batch_late : (n : ℕ) (at : OpTime) (log : List Entry) → All (λ (e : Entry). is_before at e.optime ≡ true) (batch_of n at log)
batch_late n at log = All-take (λ (e : Entry). is_before at e.optime ≡ true) n (log_after at log) (filter-passes (λ (e : Entry). is_before at e.optime) log)

-- the last of some entries has what each of them has
pub last_has : (P : OpTime → Type 0) (log : List Entry) → 0 < length log → All (λ (e : Entry). P e.optime) log → P (last_of log)
last_has P [] some all = absurd (omega (arith, some))
last_has P (entry ∷ log) some all = last_with P entry log all

pub last_late : (n : ℕ) (at : OpTime) (log : List Entry) → 0 < length (batch_of n at log) → is_before at (last_of (batch_of n at log)) ≡ true
last_late n at log some = last_has (λ o. is_before at o ≡ true) (batch_of n at log) some (batch_late n at log)

front_early : (n : ℕ) (at : OpTime) (log : List Entry) → 0 < length (batch_of n at log) → All (λ (e : Entry). is_before (last_of (batch_of n at log)) e.optime ≡ false) (log_up_to at log)
front_early n at log some k d within =
    at_most_trans (slice_index_or (log_up_to at log) k d).optime at (last_of (batch_of n at log)) (not_late _ (filter-passes (λ (e : Entry). not (is_before at e.optime)) log k d within))
    (before_at_most at (last_of (batch_of n at log)) (last_late n at log some))

pub batch_up_to : (n : ℕ) (at : OpTime) (log : List Entry) → AllPairs StandsBefore log → 0 < length (batch_of n at log) → log_up_to (last_of (batch_of n at log)) log ≡ log_up_to at log ++ batch_of n at log
batch_up_to n at log order some =
    ap (λ l. log_up_to (last_of (batch_of n at log)) l) (parts at log order)
    ∙ filter-append (λ (e : Entry). not (is_before (last_of (batch_of n at log)) e.optime)) (log_up_to at log) (log_after at log)
    ∙ ap (λ l. l ++ log_up_to (last_of (batch_of n at log)) (log_after at log))
    (filter-all (λ (e : Entry). not (is_before (last_of (batch_of n at log)) e.optime)) (log_up_to at log) (λ k d within. ap not (front_early n at log some k d within)))
    ∙ ap (λ l. log_up_to at log ++ l) (front_up_to n (log_after at log) (AllPairs-filter StandsBefore (λ (e : Entry). is_before at e.optime) log order) some)

pub batch_after : (n : ℕ) (at : OpTime) (log : List Entry) → AllPairs StandsBefore log → 0 < length (batch_of n at log) → log_after (last_of (batch_of n at log)) log ≡ drop n (log_after at log)
batch_after n at log order some =
    ap (λ l. log_after (last_of (batch_of n at log)) l) (parts at log order)
    ∙ filter-append (λ (e : Entry). is_before (last_of (batch_of n at log)) e.optime) (log_up_to at log) (log_after at log)
    ∙ ap (λ l. l ++ log_after (last_of (batch_of n at log)) (log_after at log))
    (filter-none (λ (e : Entry). is_before (last_of (batch_of n at log)) e.optime) (log_up_to at log) (front_early n at log some))
    ∙ front_after n (log_after at log) (AllPairs-filter StandsBefore (λ (e : Entry). is_before at e.optime) log order) some

-- ---- the versions that it makes

-- each entry that touches a place makes a version there
pub versions_after : (place : Place) (past : Past) (entries : List Entry) → (past_after place past entries).versions ≡ past.versions ++ versions_from place (latest_of past.versions) entries
versions_after place past [] = sym (append-nil past.versions)
versions_after place past (entry ∷ entries) = by_test (is_at (place_of entry.op) place) refl (λ next. versions_after place next entries)
  where
    made : Version
    made = record { at = entry.optime; doc = document_after entry.op (latest_of past.versions) }

    by_test : (b : Bool) → is_at (place_of entry.op) place ≡ b
        → ((next : Past) → (past_after place next entries).versions ≡ next.versions ++ versions_from place (latest_of next.versions) entries)
        → (past_after place (cond (is_at (place_of entry.op) place) (with_version past made) past) entries).versions
        ≡ past.versions ++ cond (is_at (place_of entry.op) place) (made ∷ versions_from place made.doc entries) (versions_from place (latest_of past.versions) entries)
    by_test true is again =
        rw is
        (again (with_version past made)
        ∙ ap (λ d. (past.versions ++ made ∷ []) ++ versions_from place d entries) (latest-append past.versions (made ∷ []))
        ∙ append_assoc past.versions (made ∷ []) (versions_from place made.doc entries))
    by_test false is again = rw is (again past)

pub holder_after : (place : Place) (past : Past) (entries : List Entry) → (past_after place past entries).holder ≡ past.holder
holder_after place past [] = refl
holder_after place past (entry ∷ entries) =
    holder_after place (past_with place past entry) entries
    ∙ elim (is_at (place_of entry.op) place) as (λ b. (cond b (with_version past (record { at = entry.optime; doc = document_after entry.op (latest_of past.versions) })) past).holder ≡ past.holder) [
      | true ↦ refl
      | false ↦ refl
    ]

-- ---- a batch of the log

-- what another node than a primary has
pub stable_applied : (node : Node) → IsSound node → is_primary node.role ≡ false → is_before node.applied node.stable ≡ false
stable_applied node sound other = ap (λ o. is_before o node.stable) (sym (other_point node.role (visible_point node) node.applied other)) ∙ sound.stable

versions_applied : (node : Node) (store : Store) → IsKept node store → is_primary node.role ≡ false → (place : Place) → HasVersions place node.stable (log_up_to node.applied node.log) (versions_at store place)
versions_applied node store kept other place =
    subst (λ log. HasVersions place node.stable log (versions_at store place)) (other_point node.role node.log (log_up_to node.applied node.log) other) (kept.versions place)

-- no version is newer than what is applied
early_versions : (node : Node) (store : Store) → IsKept node store → is_primary node.role ≡ false → (place : Place) → All (λ (v : Version). is_before node.applied v.at ≡ false) (versions_at store place)
early_versions node store kept other place =
    let has : HasVersions place node.stable (log_up_to node.applied node.log) (versions_at store place) = versions_applied node store kept other place in
    let before : Option Fields = get (docs (log_up_to node.stable (log_up_to node.applied node.log))) place in
    subst (λ vs. All (λ (v : Version). is_before node.applied v.at ≡ false) vs) (sym has.is)
    (All-append (λ (v : Version). is_before node.applied v.at ≡ false) has.base (versions_from place before (log_after node.stable (log_up_to node.applied node.log)))
    (λ k d within. at_most_trans (slice_index_or has.base k d).at node.stable node.applied (has.early k d within) (stable_applied node kept.sound other))
    (all_versions (λ o. is_before node.applied o ≡ false) place before (log_after node.stable (log_up_to node.applied node.log))
    (All-filter (λ (e : Entry). is_before node.stable e.optime) (λ (e : Entry). is_at (place_of e.op) place ≡ true → is_before node.applied e.optime ≡ false) (log_up_to node.applied node.log)
    (λ k d within here. not_late _ (filter-passes (λ (e : Entry). not (is_before node.applied e.optime)) node.log k d within)))))

pub batch_fits : (node : Node) (store : Store) (n : ℕ) → IsKept node store → is_primary node.role ≡ false → IsBatch store (batch_of n node.applied node.log)
batch_fits node store n kept other = record {
  lawful = All-take IsLawful n (log_after node.applied node.log) (All-filter (λ (e : Entry). is_before node.applied e.optime) IsLawful node.log kept.sound.oplog.lawful);
  rising = λ i j d less within.
      let stands : StandsBefore (slice_index_or (batch_of n node.applied node.log) i d) (slice_index_or (batch_of n node.applied node.log) j d) =
      pairs_take StandsBefore n (log_after node.applied node.log) (AllPairs-filter StandsBefore (λ (e : Entry). is_before node.applied e.optime) node.log kept.sound.oplog.order) i j d less within in
      before_both (slice_index_or (batch_of n node.applied node.log) i d).optime (slice_index_or (batch_of n node.applied node.log) j d).optime stands.term stands.earlier;
  later = λ place k v within i d inside.
      at_most_before_trans (slice_index_or (versions_at store place) k v).at node.applied (slice_index_or (batch_of n node.applied node.log) i d).optime
      (early_versions node store kept other place k v within) (batch_late n node.applied node.log i d inside);
}

pub kept_batch : (node : Node) (store later : Store) (n : ℕ) → IsKept node store → is_primary node.role ≡ false → 0 < length (batch_of n node.applied node.log)
    → HasApplied store later (batch_of n node.applied node.log) → IsKept (record node { applied = last_of (batch_of n node.applied node.log) }) later
kept_batch node store later n kept other some applied =
    let idle : IsIdle node = kept.sound.idle other in
    record {
      sound = record {
        oplog = kept.sound.oplog;
        entries = kept.sound.entries;
        documents = kept.sound.documents;
        marked = kept.sound.marked;
        idle = λ not. record { slots = idle.slots; writers = idle.writers };
        applied = last_has (λ o. is_before (last_of node.log) o ≡ false) (batch_of n node.applied node.log) some
            (All-take (λ (e : Entry). is_before (last_of node.log) e.optime ≡ false) n (log_after node.applied node.log)
            (All-filter (λ (e : Entry). is_before node.applied e.optime) (λ (e : Entry). is_before (last_of node.log) e.optime ≡ false) node.log (at_most_last node.log kept.sound.oplog.order)));
        stable = ap (λ o. is_before o node.stable) (other_point node.role (visible_point (record node { applied = last_of (batch_of n node.applied node.log) })) (last_of (batch_of n node.applied node.log)) other)
            ∙ at_most_trans node.stable node.applied (last_of (batch_of n node.applied node.log)) (stable_applied node kept.sound other)
            (before_at_most node.applied (last_of (batch_of n node.applied node.log)) (last_late n node.applied node.log some));
      };
      writers = apart_idle (record node { applied = last_of (batch_of n node.applied node.log) }) idle.writers;
      versions = λ p. subst (λ log. HasVersions p node.stable log (versions_at later p))
          (sym (other_point node.role node.log (log_up_to (last_of (batch_of n node.applied node.log)) node.log) other ∙ batch_up_to n node.applied node.log kept.sound.oplog.order some))
          (subst (λ vs. HasVersions p node.stable (log_up_to node.applied node.log ++ batch_of n node.applied node.log) vs) (sym (versions_now p))
          (has_more p node.stable (log_up_to node.applied node.log) (batch_of n node.applied node.log) (versions_at store p) (front_order) (late) (versions_applied node store kept other p)));
      holders = λ p. subst (λ h. IsHolder node.writers p h) (sym (ap (λ (past : Past). past.holder) (applied.each p) ∙ holder_after p (past_at store p) (batch_of n node.applied node.log))) (kept.holders p);
      shards = applied.count ∙ kept.shards;
    }
  where
    front_order : AllPairs StandsBefore (log_up_to node.applied node.log)
    front_order = AllPairs-filter StandsBefore (λ (e : Entry). not (is_before node.applied e.optime)) node.log kept.sound.oplog.order

    late : All (λ (e : Entry). is_before node.stable e.optime ≡ true) (batch_of n node.applied node.log)
    late k d within = at_most_before_trans node.stable node.applied (slice_index_or (batch_of n node.applied node.log) k d).optime (stable_applied node kept.sound other) (batch_late n node.applied node.log k d within)

    versions_now : (p : Place) → versions_at later p ≡ versions_at store p ++ versions_from p (get (docs (log_up_to node.applied node.log)) p) (batch_of n node.applied node.log)
    versions_now p =
        ap (λ (past : Past). past.versions) (applied.each p)
        ∙ versions_after p (past_at store p) (batch_of n node.applied node.log)
        ∙ ap (λ d. versions_at store p ++ versions_from p d (batch_of n node.applied node.log))
        (latest_has p node.stable (log_up_to node.applied node.log) (versions_at store p) front_order (versions_applied node store kept other p))

-- the optime of the last entry of a batch
pub last_applied : (at : OpTime) (batch : List Entry) → 0 < length batch → applied_after at batch ≡ last_of batch
last_applied at [] some = absurd (omega (arith, some))
last_applied at (entry ∷ batch) some = refl

pub some_last : (batch : List Entry) (last : Entry) → Some last ≡ slice_get batch (length batch - 1) → 0 < length batch
some_last [] last is = cc is
some_last (entry ∷ batch) last is = omega arith

pub applied_is : (at : OpTime) (batch : List Entry) (last : Entry) → Some last ≡ slice_get batch (length batch - 1) → last.optime ≡ applied_after at batch
applied_is at batch last is = last_is batch last is ∙ sym (last_applied at batch (some_last batch last is))

pub kept_next : (node : Node) (store later : Store) (n : ℕ) (last : Entry) → IsKept node store → is_primary node.role ≡ false → Some last ≡ slice_get (batch_of n node.applied node.log) (length (batch_of n node.applied node.log) - 1)
    → HasApplied store later (batch_of n node.applied node.log) → IsKept (record node { applied = last.optime }) later
kept_next node store later n last kept other is applied =
    subst (λ (o : OpTime). IsKept (record node { applied = o }) later) (sym (last_is (batch_of n node.applied node.log) last is))
    (kept_batch node store later n kept other (some_last (batch_of n node.applied node.log) last is) applied)
