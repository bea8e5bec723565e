-- A node's data, restored from the entries and the documents that disks have.
use Rattle.std.proofs.Common.{◌≡◌, inl, inr, ◌∙◌, ◌≤◌, ap, sym, refl, subst, arith, Bool, true, false, not, ℕ, zero, suc, List, [], ◌∷◌, ◌++◌, Option, None, Some, append-nil, length, length-append, max}
use Rattle.std.specs.Prelude.{slice_index_or}
use Rattle.std.specs.List.{All, AllPairs, AllByRecursion}
use Rattle.std.specs.List.Sorted.{IsStrictlySortedBy}
use Rattle.std.specs.BTreeMap.{is_at}
use Rattle.std.specs.Map.{keys_of}
use Rattle.std.specs.Ordering.{is_eq, nat_cmp}
use Rattle.std.specs.declared.cmp.Ordering.TheVariants.{Less}
use Rattle.std.specs.Cmp.{tied_itself}
use Rattle.std.specs.FinMap as maps
use Rattle.std.specs.FinSet as sets
use Rattle.std.proofs.lemmas.Map.Entries.{lookup_head, lookup_tail}
use Rattle.bson_doc.specs.Place.{Place, place_cmp}
use Rattle.bson_doc.specs.Tree.{Fields}
use Rattle.bson_doc.proofs.KeyLemmas.{place_cmp-total}
use Rattle.doc_fold.specs.Map.{documents_of}
use Rattle.doc_fold.proofs.MapLemmas.{document_at, get-documents_of}
use Rattle.entry_bytes.specs.Sizes.{IsWithinEntry}
use Rattle.rs_optime.specs.Order.{is_before, optime_cmp}
use Rattle.rs_optime.specs.Later.{later_of}
use Rattle.rs_optime.specs.declared.optime.OpTime.{OpTime}
use Rattle.rs_optime.proofs.Optimes.{at_most_refl, at_most_antisym}
use Rattle.oplog_entry.specs.Docs.{docs}
use Rattle.oplog_entry.specs.Log.{StandsBefore}
use Rattle.oplog_entry.specs.Visible.{last_of, log_up_to}
use Rattle.oplog_entry.specs.declared.entry.Entry.{Entry}
use Rattle.oplog_entry.proofs.PlaceLemmas.{is_at-other, same_place}
use Rattle.oplog_store.specs.Log.{IsOplog}
use Rattle.oplog_store.proofs.Keeps.{pairs_head, pairs_tail}
use Rattle.repl_msg.specs.Logs.{log_after}
use Rattle.version_store.specs.declared.history.Version.{Version}
use Rattle.version_store.specs.Past.{Past, no_past, latest_of, with_version}
use Rattle.version_store.specs.Store.{Store, past_at, versions_at, holder_at, Changes}
use Rattle.set_model.specs.declared.writer.Writer.TheVariants.{Open}
use Rattle.set_model.specs.Fetching.{seen_after}
use Rattle.node_data.specs.Kept.{IsKept, IsHolder, is_held_by}
use Rattle.node_data.specs.NodeData.{data_node, restored}
use Rattle.node_data.specs.Versions.{AreSmall, HasVersions, version_as_of, versions_from}
use Rattle.node_data.specs.Writers.{IsWriting, Writers}
use Rattle.node_data.proofs.LogLemmas.{filter-none, filter-passes, last_with, up_to-last, up_to-up_to}
use Rattle.node_data.proofs.HasLemmas.{not_late}
use Rattle.node_data.proofs.RoleLemmas.{apart_idle}
use Rattle.node_data.proofs.StoreLemmas.{holders_stay}
use Rattle.node_data.proofs.BatchesLemmas.{later_first, later_second}

-- ---- a store of documents

-- the store and the documents that are left make up the documents
pub record StoredSoFar (at : OpTime) (documents rest : List (Place × Fields)) (store : Store) : Type 0 where
  pub versions : (place : Place) → versions_at store place ++ version_as_of at (document_at rest place) ≡ version_as_of at (document_at documents place)
  pub free : (place : Place) → holder_at store place ≡ None
  pub order : IsStrictlySortedBy place_cmp (keys_of rest)
  pub shards : store.count ≡ 64

pub stored_none : (at : OpTime) (documents rest : List (Place × Fields)) (store : Store) → store.count ≡ 64 → rest ≡ documents → IsStrictlySortedBy place_cmp (keys_of documents) → ((place : Place) → past_at store place ≡ no_past)
    → StoredSoFar at documents rest store
stored_none at documents rest store shards same order none = record {
  versions = λ p. ap (λ (past : Past). past.versions ++ version_as_of at (document_at rest p)) (none p) ∙ ap (λ es. version_as_of at (document_at es p)) same;
  free = λ p. ap (λ (past : Past). past.holder) (none p);
  order = subst (λ (es : List (Place × Fields)). IsStrictlySortedBy place_cmp (keys_of es)) (sym same) order;
  shards = shards;
}

-- no later key is the first one
none_later : (place : Place) (rest : List (Place × Fields)) → AllByRecursion (λ other. place_cmp place other ≡ Less) (keys_of rest) → document_at rest place ≡ None
none_later place [] later = refl
none_later place (item ∷ rest) later = lookup_tail (is_at (place_cmp place)) item rest (ap is_eq later.0) ∙ none_later place rest later.1

sorted_first : (place : Place) (document : Fields) (rest : List (Place × Fields)) → IsStrictlySortedBy place_cmp (keys_of ((place, document) ∷ rest)) → AllByRecursion (λ other. place_cmp place other ≡ Less) (keys_of rest)
unfolding IsStrictlySortedBy
sorted_first place document rest order = order.0

sorted_rest : (place : Place) (document : Fields) (rest : List (Place × Fields)) → IsStrictlySortedBy place_cmp (keys_of ((place, document) ∷ rest)) → IsStrictlySortedBy place_cmp (keys_of rest)
unfolding IsStrictlySortedBy
sorted_rest place document rest order = order.1

found_first : (place : Place) (document : Fields) (rest : List (Place × Fields)) → document_at ((place, document) ∷ rest) place ≡ Some document
found_first place document rest = lookup_head (is_at (place_cmp place)) (place, document) rest (ap is_eq (tied_itself place_cmp-total place))

at_most_one : (at : OpTime) (found : Option Fields) → length (version_as_of at found) ≤ 1
at_most_one at None = omega arith
at_most_one at (Some document) = omega arith

nothing_before : (at : OpTime) (versions : List Version) (version : Version) (found : Option Fields) → versions ++ version ∷ [] ≡ version_as_of at found → versions ≡ []
nothing_before at [] version found is = refl
nothing_before at (first ∷ versions) version found is = absurd (omega (arith, ap length is, length-append (first ∷ versions) (version ∷ []), at_most_one at found))

-- a document that is left has no version yet
pub none_yet : (at : OpTime) (documents rest : List (Place × Fields)) (store : Store) (place : Place) (document : Fields) → StoredSoFar at documents ((place, document) ∷ rest) store → versions_at store place ≡ []
none_yet at documents rest store place document so =
    nothing_before at (versions_at store place) (record { at = at; doc = Some document }) (document_at documents place)
    (ap (λ found. versions_at store place ++ version_as_of at found) (sym (found_first place document rest)) ∙ so.versions place)

pub stored_more : (at : OpTime) (documents rest : List (Place × Fields)) (store later : Store) (place : Place) (document : Fields) → StoredSoFar at documents ((place, document) ∷ rest) store
    → Changes store later place (with_version (past_at store place) (record { at = at; doc = Some document })) → StoredSoFar at documents rest later
stored_more at documents rest store later place document so changes = record {
  versions = versions;
  free = λ p. holders_stay store later place (with_version (past_at store place) (record { at = at; doc = Some document })) changes refl p ∙ so.free p;
  order = sorted_rest place document rest so.order;
  shards = changes.count ∙ so.shards;
}
  where
    here : versions_at later place ++ version_as_of at (document_at rest place) ≡ version_as_of at (document_at documents place)
    here =
        ap (λ found. versions_at later place ++ version_as_of at found) (none_later place rest (sorted_first place document rest so.order))
        ∙ append-nil (versions_at later place)
        ∙ ap (λ (past : Past). past.versions) changes.here
        ∙ ap (λ found. versions_at store place ++ version_as_of at found) (sym (found_first place document rest))
        ∙ so.versions place

    some_same : (p : Place) → Some p ≡ Some place → p ≡ place
    some_same p e = cc

    versions : (p : Place) → versions_at later p ++ version_as_of at (document_at rest p) ≡ version_as_of at (document_at documents p)
    versions p = elim (same_place place p) [
      | inl same ↦ subst (λ q. versions_at later q ++ version_as_of at (document_at rest q) ≡ version_as_of at (document_at documents q)) same here
      | inr apart ↦
          ap (λ (past : Past). past.versions ++ version_as_of at (document_at rest p)) (changes.others p (λ e. apart (sym e)))
          ∙ ap (λ found. versions_at store p ++ version_as_of at found) (sym (lookup_tail (is_at (place_cmp p)) (place, document) rest (is_at-other (Some p) place (λ e. apart (sym (some_same p e))))))
          ∙ so.versions p
    ]

pub stored_all : (at : OpTime) (documents rest : List (Place × Fields)) (store : Store) → StoredSoFar at documents rest store → rest ≡ []
    → (place : Place) → versions_at store place ≡ version_as_of at (maps.get (documents_of documents) place)
stored_all at documents rest store so none place =
    sym (append-nil (versions_at store place))
    ∙ ap (λ es. versions_at store place ++ version_as_of at (document_at es place)) (sym none)
    ∙ so.versions place
    ∙ ap (λ found. version_as_of at found) (sym (get-documents_of documents place))

-- ---- data as the disks have it

latest-as_of : (at : OpTime) (found : Option Fields) → latest_of (version_as_of at found) ≡ found
latest-as_of at None = refl
latest-as_of at (Some document) = refl

early-as_of : (at : OpTime) (found : Option Fields) → All (λ (v : Version). is_before at v.at ≡ false) (version_as_of at found)
early-as_of at None k d within = absurd (omega (arith, within))
early-as_of at (Some document) zero d within = at_most_refl at
early-as_of at (Some document) (suc k) d within = absurd (omega (arith, within))

-- a log has nothing after an optime that it goes up to
none_after : (at : OpTime) (log : List Entry) → log_after at (log_up_to at log) ≡ []
none_after at log = filter-none (λ (e : Entry). is_before at e.optime) (log_up_to at log) (λ k d within. not_late _ (filter-passes (λ (e : Entry). not (is_before at e.optime)) log k d within))

has_as_of : (place : Place) (at : OpTime) (log : List Entry) → HasVersions place at (log_up_to at log) (version_as_of at (maps.get (docs (log_up_to at log)) place))
has_as_of place at log =
    let found : Option Fields = maps.get (docs (log_up_to at log)) place in
    let front : log_up_to at (log_up_to at log) ≡ log_up_to at log = up_to-up_to at at log (at_most_refl at) in
    record {
      base = version_as_of at found;
      is = sym (append-nil (version_as_of at found)) ∙ ap (λ l. version_as_of at found ++ versions_from place (maps.get (docs (log_up_to at (log_up_to at log))) place) l) (sym (none_after at log));
      early = early-as_of at found;
      shows = latest-as_of at found ∙ ap (λ l. maps.get (docs l) place) (sym front);
    }

-- timestamps rise up to the last one
last_greatest : (log : List Entry) → AllPairs StandsBefore log → All (λ (e : Entry). e.optime.ts ≤ (last_of log).ts) log
last_greatest [] order k d within = absurd (omega (arith, within))
last_greatest (entry ∷ []) order zero d within = omega arith
last_greatest (entry ∷ []) order (suc k) d within = absurd (omega (arith, within))
last_greatest (entry ∷ next ∷ log) order zero d within =
    last_with (λ o. entry.optime.ts ≤ o.ts) next log (λ k e inside.
    let stands : StandsBefore entry (slice_index_or (next ∷ log) k e) = pairs_head StandsBefore entry (next ∷ log) order k e inside in
    omega (arith, stands.earlier))
last_greatest (entry ∷ next ∷ log) order (suc k) d within = last_greatest (next ∷ log) (pairs_tail StandsBefore entry (next ∷ log) order) k d (omega (arith, within))

-- the last timestamp is the greatest seen
seen_last : (seen : ℕ) (entry : Entry) (log : List Entry) → AllPairs StandsBefore (entry ∷ log) → seen ≤ entry.optime.ts → seen_after seen (entry ∷ log) ≡ (last_of (entry ∷ log)).ts
seen_last seen entry [] order below = omega (arith, below)
seen_last seen entry (next ∷ log) order below =
    let stands : StandsBefore entry next = pairs_head StandsBefore entry (next ∷ log) order zero next (omega arith) in
    seen_last (max seen entry.optime.ts) next log (pairs_tail StandsBefore entry (next ∷ log) order) (omega (arith, stands.earlier, below))

pub seen_whole : (log : List Entry) → AllPairs StandsBefore log → seen_after 0 log ≡ (last_of log).ts
seen_whole [] order = refl
seen_whole (entry ∷ log) order = seen_last 0 entry log order (omega arith)

pub later_reached : (at last : OpTime) → is_before last at ≡ false → later_of at last ≡ last
later_reached at last reached = by_test (is_before at last) refl
  where
    by_test : (b : Bool) → is_before at last ≡ b → later_of at last ≡ last
    by_test true is = later_second at last is
    by_test false is = later_first at last is ∙ at_most_antisym at last reached is

pub applied_whole : (at : OpTime) (log : List Entry) → AllPairs StandsBefore log → is_before (last_of log) at ≡ false → later_of at (last_of (log_up_to (last_of log) log)) ≡ last_of log
applied_whole at log order reached = ap (λ l. later_of at (last_of l)) (up_to-last log order) ∙ later_reached at (last_of log) reached

pub kept_stored : (store : Store) (log : List Entry) (at : OpTime) → IsOplog log → All IsWithinEntry log → AreSmall log
    → is_before (last_of log) at ≡ false → ((p : Place) → versions_at store p ≡ version_as_of at (maps.get (docs (log_up_to at log)) p)) → ((p : Place) → holder_at store p ≡ None) → store.count ≡ 64
    → IsKept (data_node false log sets.empty maps.empty (seen_after 0 log) at at) store
kept_stored store log at oplog within small reached versions free shards = record {
  sound = record {
    oplog = oplog;
    entries = within;
    documents = small;
    marked = λ k d inside. omega (arith, last_greatest log oplog.order k d inside, seen_whole log oplog.order);
    idle = λ not. record { slots = refl; writers = closed };
    applied = reached;
    stable = at_most_refl at;
  };
  writers = apart_idle (data_node false log sets.empty maps.empty (seen_after 0 log) at at) closed;
  versions = λ p. subst (λ vs. HasVersions p at (log_up_to at log) vs) (sym (versions p)) (has_as_of p at log);
  holders = λ p. subst (λ h. IsHolder maps.empty p h) (sym (free p)) (λ w. ap (λ v. is_held_by v p) (maps.get-empty nat_cmp w));
  shards = shards;
}
  where
    closed : (writer : ℕ) → ¬ IsWriting maps.empty writer
    closed writer writing =
        let here : None ≡ Some (Open writing.0 writing.1) = sym (maps.get-empty nat_cmp writer) ∙ writing.2 in
        cc

pub restored_is : (mark : ℕ) (log entries : List Entry) (slots : sets.FinSet optime_cmp) (writers : Writers) (last at : OpTime) → log ≡ entries → slots ≡ sets.empty → writers ≡ maps.empty → mark ≡ seen_after 0 entries
    → last ≡ last_of entries → AllPairs StandsBefore entries → is_before (last_of entries) at ≡ false
    → data_node false log slots writers mark (later_of at (last_of (log_up_to last log))) at ≡ restored entries at
restored_is mark log entries slots writers last at same none idle seen end order reached =
    ap (λ l. data_node false l slots writers mark (later_of at (last_of (log_up_to last l))) at) same
    ∙ ap (λ s. data_node false entries s writers mark (later_of at (last_of (log_up_to last entries))) at) none
    ∙ ap (λ w. data_node false entries sets.empty w mark (later_of at (last_of (log_up_to last entries))) at) idle
    ∙ ap (λ m. data_node false entries sets.empty maps.empty m (later_of at (last_of (log_up_to last entries))) at) (seen ∙ seen_whole entries order)
    ∙ ap (λ o. data_node false entries sets.empty maps.empty (last_of entries).ts (later_of at (last_of (log_up_to o entries))) at) end
    ∙ ap (λ o. data_node false entries sets.empty maps.empty (last_of entries).ts o at) (applied_whole at entries order reached)
