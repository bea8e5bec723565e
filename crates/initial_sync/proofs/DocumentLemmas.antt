-- A store into which documents are put one after another, each at a place of its own.
use Rattle.std.proofs.Common.{◌≡◌, ◌∙◌, Bool, true, false, cond, not, ℕ, List, [], ◌∷◌, ◌++◌, map, take, Option, None, Some, ap, sym, subst, refl, arith, append_assoc, take-append-drop, drop, length, ◌+◌, ◌<◌}
use Rattle.std.specs.Prelude.{◌&&◌, T, slice_index_or}
use Rattle.std.proofs.lemmas.List.{map-append, map_more}
use Rattle.std.specs.List.{All}
use Rattle.std.specs.FinMap.{entries, entries_sorted, find, get-entries, is_sorted}
use Rattle.std.specs.FinMap.Entries.{below_all}
use Rattle.std.specs.Ordering.{eq_by_cmp, is_eq, is_lt}
use Rattle.std.specs.declared.cmp.Ordering.{Ordering}
use Rattle.std.specs.declared.cmp.Ordering.TheVariants.{Less, Equal, Greater}
use Rattle.std.specs.Cmp.{Equal-is, eq_by_cmp_equiv, tied_itself}
use Rattle.rs_optime.specs.Order.{is_before}
use Rattle.rs_optime.specs.declared.optime.OpTime.{OpTime}
use Rattle.rs_optime.proofs.Optimes.{at_most_refl}
use Rattle.bson_doc.specs.Place.{Place, place_cmp}
use Rattle.bson_doc.specs.Tree.{Fields}
use Rattle.bson_doc.proofs.KeyLemmas.{place_cmp-total, place_cmp-antisymmetric}
use Rattle.oplog_entry.specs.Docs.{Documents}
use Rattle.version_store.specs.Past.{Past, no_past, shown, with_version}
use Rattle.version_store.specs.Store.{Changes, Store, past_at, versions_at}
use Rattle.version_store.specs.declared.history.Version.{Version}
use Rattle.checkpoint_store.specs.Layout.{Saved}
use Rattle.checkpoint_store.specs.Shown.{Shows}
use Rattle.initial_sync.specs.Pinned.{placed}
use Rattle.initial_sync.specs.declared.pinned.Kept1.{Kept1}

-- ---- what is found among documents in order

tested : (a b : Bool) → T (a && b) → T a × T b
tested true b p = (tt, p)
tested false b p = absurd p

less : (o : Ordering) → T (is_lt o) → o ≡ Less
less Less p = refl
less Equal p = absurd p
less Greater p = absurd p

below_it : (place : Place) (front rest : List Saved) (one : Saved) → T (below_all place_cmp place (front ++ one ∷ rest)) → place_cmp place one.0 ≡ Less
below_it place [] rest one below = less (place_cmp place one.0) (tested (is_lt (place_cmp place one.0)) (below_all place_cmp place rest) below).0
below_it place (e ∷ front) rest one below = below_it place front rest one (tested (is_lt (place_cmp place e.0)) (below_all place_cmp place (front ++ one ∷ rest)) below).1

-- no place stands before itself
pub none_before : (front rest : List Saved) (one : Saved) → T (is_sorted place_cmp (front ++ one ∷ rest)) → find place_cmp one.0 front ≡ None
none_before [] rest one sorted = refl
none_before (e ∷ front) rest one sorted =
    let both = tested (below_all place_cmp e.0 (front ++ one ∷ rest)) (is_sorted place_cmp (front ++ one ∷ rest)) sorted in
    let other : eq_by_cmp place_cmp one.0 e.0 ≡ false =
    (eq_by_cmp_equiv place_cmp-total).symm one.0 e.0 ∙ ap is_eq (below_it e.0 front rest one both.0) in
    ap (λ b. cond b (Some e.1) (find place_cmp one.0 front)) other ∙ none_before front rest one both.1

-- ---- a store with some documents

abbrev past_of : OpTime → Option Fields → Past
past_of at None = no_past
past_of at (Some document) = record { versions = record { at = at; doc = Some document } ∷ []; holder = None }

-- each of these is there as of an optime, and nothing else is
abbrev pub Stores : OpTime → List Saved → Store → Type 0
Stores at saved store = (place : Place) → past_at store place ≡ past_of at (find place_cmp place saved)

pub stores_none : (at : OpTime) (store : Store) → ((place : Place) → past_at store place ≡ no_past) → Stores at [] store
stores_none at store empty place = empty place

pub can_put : (at : OpTime) (front rest : List Saved) (one : Saved) (store : Store) → T (is_sorted place_cmp (front ++ one ∷ rest)) → Stores at front store → past_at store one.0 ≡ no_past
can_put at front rest one store sorted stores = stores one.0 ∙ ap (past_of at) (none_before front rest one sorted)

pub no_versions : (at : OpTime) (store : Store) (place : Place) → past_at store place ≡ no_past → All (λ version. is_before version.at at ≡ true) (versions_at store place)
no_versions at store place none =
    subst (λ (p : Past). All (λ version. is_before version.at at ≡ true) p.versions) (sym none) (λ k d within. absurd (omega arith))

find_after : (q : Place) (front : List Saved) (one : Saved) → eq_by_cmp place_cmp q one.0 ≡ false → find place_cmp q (front ++ one ∷ []) ≡ find place_cmp q front
find_after q [] one other = ap (λ b. cond b (Some one.1) None) other
find_after q (e ∷ front) one other = ap (λ o. cond (eq_by_cmp place_cmp q e.0) (Some e.1) o) (find_after q front one other)

found_after : (q : Place) (front : List Saved) (one : Saved) → eq_by_cmp place_cmp q one.0 ≡ true → find place_cmp q front ≡ None → find place_cmp q (front ++ one ∷ []) ≡ Some one.1
found_after q [] one same none = ap (λ b. cond b (Some one.1) None) same
found_after q (e ∷ front) one same none = by_test (eq_by_cmp place_cmp q e.0) (λ there. found_after q front one same there) none
  where
    by_test : (b : Bool) → (find place_cmp q front ≡ None → find place_cmp q (front ++ one ∷ []) ≡ Some one.1) → cond b (Some e.1) (find place_cmp q front) ≡ None
        → cond b (Some e.1) (find place_cmp q (front ++ one ∷ [])) ≡ Some one.1
    by_test true more there = absurd (cc there)
    by_test false more there = more there

pub stores_more : (at : OpTime) (front rest : List Saved) (one : Saved) (old new : Store) → T (is_sorted place_cmp (front ++ one ∷ rest)) → Stores at front old
    → Changes old new one.0 (with_version (past_at old one.0) (record { at = at; doc = Some one.1 })) → Stores at (front ++ one ∷ []) new
stores_more at front rest one old new sorted stores changes q = by_test (eq_by_cmp place_cmp q one.0) refl
  where
    by_test : (b : Bool) → eq_by_cmp place_cmp q one.0 ≡ b → past_at new q ≡ past_of at (find place_cmp q (front ++ one ∷ []))
    by_test true same =
        let is : q ≡ one.0 = place_cmp-antisymmetric q one.0 ((Equal-is _).0 same) in
        let none : find place_cmp one.0 front ≡ None = none_before front rest one sorted in
        ap (past_at new) is ∙ changes.here ∙ ap (λ (p : Past). with_version p (record { at = at; doc = Some one.1 })) (can_put at front rest one old sorted stores)
        ∙ sym (ap (past_of at) (found_after q front one same (ap (λ (p : Place). find place_cmp p front) is ∙ none)))
    by_test false other =
        changes.others q (λ is. absurd (apart is)) ∙ stores q ∙ sym (ap (past_of at) (find_after q front one other))
      where
        apart : q ≡ one.0 → ⊥
        apart is =
            let itself : eq_by_cmp place_cmp q one.0 ≡ true = ap (λ (p : Place). eq_by_cmp place_cmp p one.0) is ∙ ap is_eq (tied_itself place_cmp-total one.0) in cc

shown_so : (at : OpTime) (found : Option Fields) → shown at (past_of at found).versions ≡ found
shown_so at None = refl
shown_so at (Some document) =
    let now : is_before at at ≡ false = at_most_refl at in
    ap (λ (b : Bool). Rattle.version_store.specs.Past.latest_of (cond (not b) (one ∷ []) [])) now
  where
    one : Version
    one = record { at = at; doc = Some document }

pub stores_all : (at : OpTime) (of : Documents) (saved : List Saved) (store : Store) → saved ≡ entries of → Stores at saved store → Shows store at of
stores_all at of saved store is stores place =
    get-entries of place ∙ ap (find place_cmp place) (sym is)
    ∙ sym (ap (λ (p : Past). shown at p.versions) (stores place) ∙ shown_so at (find place_cmp place saved))

pub sorted_so : (of : Documents) (saved : List Saved) → saved ≡ entries of → T (is_sorted place_cmp saved)
sorted_so of saved is = subst (λ (l : List Saved). T (is_sorted place_cmp l)) (sym is) (entries_sorted of)

-- ---- the next document

cut_at : (documents : List Kept1) (i : ℕ) (item : Kept1) → i < length documents → item ≡ slice_index_or documents i item
    → map placed documents ≡ map placed (take i documents) ++ placed item ∷ map placed (drop (i + 1) documents)
cut_at documents i item within read =
    ap (map placed) (sym (take-append-drop (i + 1) documents)) ∙ map-append placed (take (i + 1) documents) (drop (i + 1) documents)
    ∙ ap (λ (l : List Saved). l ++ map placed (drop (i + 1) documents)) (pushed documents i item within read)
    ∙ append_assoc (map placed (take i documents)) (placed item ∷ []) (map placed (drop (i + 1) documents))
  where
    pushed : (documents : List Kept1) (i : ℕ) (item : Kept1) → i < length documents → item ≡ slice_index_or documents i item
        → map placed (take (i + 1) documents) ≡ map placed (take i documents) ++ placed item ∷ []
    pushed documents i item within read = map_more placed documents i item within ∙ ap (λ (x : Kept1). map placed (take i documents) ++ placed x ∷ []) (sym read)

module _ (at : OpTime) (documents : List Kept1) (of : Documents) (is : map placed documents ≡ entries of) (i : ℕ) (item : Kept1) (within : i < length documents)
    (read : item ≡ slice_index_or documents i item) (store : Store) (stores : Stores at (map placed (take i documents)) store) (place : Place) (here : place ≡ (placed item).0) where
  sorted : T (is_sorted place_cmp (map placed (take i documents) ++ placed item ∷ map placed (drop (i + 1) documents)))
  sorted = subst (λ (l : List Saved). T (is_sorted place_cmp l)) (cut_at documents i item within read) (sorted_so of (map placed documents) is)

  pub can_put_next : All (λ version. is_before version.at at ≡ true) (versions_at store place)
  can_put_next =
      no_versions at store place
      (ap (past_at store) here ∙ can_put at (map placed (take i documents)) (map placed (drop (i + 1) documents)) (placed item) store sorted stores)

  pub stores_next : (new : Store) (document : Fields) → document ≡ (placed item).1 → Changes store new place (with_version (past_at store place) (record { at = at; doc = Some document }))
      → Stores at (map placed (take (i + 1) documents)) new
  stores_next new document own changes =
      let same : Changes store new (placed item).0 (with_version (past_at store (placed item).0) (record { at = at; doc = Some (placed item).1 })) =
      subst (λ (p : Place). Changes store new p (with_version (past_at store p) (record { at = at; doc = Some (placed item).1 }))) here
      (subst (λ (d : Fields). Changes store new place (with_version (past_at store place) (record { at = at; doc = Some d }))) own changes) in
      subst (λ (l : List Saved). Stores at l new)
      (sym (map_more placed documents i item within ∙ ap (λ (x : Kept1). map placed (take i documents) ++ placed x ∷ []) (sym read)))
      (stores_more at (map placed (take i documents)) (map placed (drop (i + 1) documents)) (placed item) store new sorted stores same)
