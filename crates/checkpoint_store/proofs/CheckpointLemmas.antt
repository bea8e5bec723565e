-- The state that the records of a checkpoint add up to, whole or cut off.
use Rattle.std.proofs.Common.{◌≡◌, ℕ, ◌+◌, ◌*◌, ◌/◌, ◌≤◌, Bool, true, false, cond, List, [], ◌∷◌, ◌++◌, length, take, drop, map, suc, zero, Option, None, Some, refl, sym, ap, ◌∙◌, arith, take-append-drop, length-drop}
use Rattle.std.specs.Prelude.{◌≢◌, fold, ◌&&◌, T}
use Rattle.std.specs.Simd.{first_chunks}
use Rattle.std.specs.FinMap.{empty, insert, get, entries, entries_sorted, find, is_sorted, get-insert, get-empty, get-entries, same_map}
use Rattle.std.specs.FinMap.Entries.{below_all}
use Rattle.std.specs.Ordering.{eq_by_cmp, is_eq, is_lt}
use Rattle.std.specs.declared.cmp.Ordering.{Ordering}
use Rattle.std.specs.declared.cmp.Ordering.TheVariants.{Less, Equal, Greater}
use Rattle.std.specs.Cmp.{Equal-is}
use Rattle.std.proofs.lemmas.List.Sums.{fold-append}
use Rattle.rs_optime.specs.declared.optime.OpTime.{OpTime}
use Rattle.bson_doc.specs.Place.{Place, place_cmp}
use Rattle.bson_doc.specs.Tree.{Fields}
use Rattle.bson_doc.proofs.KeyLemmas.{place_cmp-total, place_cmp-antisymmetric}
use Rattle.oplog_entry.specs.Docs.{Documents}
use Rattle.checkpoint_store.specs.Layout.{Saved, Record, begins, holds, ends}
use Rattle.checkpoint_store.specs.Spelled.{PIECE}
use Rattle.checkpoint_store.specs.Checkpoint.{SoFar, nothing_yet, with_record, with_documents, last_whole, checkpoint_of, checkpoint}
use Rattle.checkpoint_store.specs.declared.stable.Stable.{Stable}

-- ---- a prefix of a checkpoint leaves the last whole one as it was

same_rest : (x y : Record) (xs ys : List Record) → x ∷ xs ≡ y ∷ ys → xs ≡ ys
same_rest x y xs ys same = cc

same_first : (x y : Record) (xs ys : List Record) → x ∷ xs ≡ y ∷ ys → x ≡ y
same_first x y xs ys same = cc

one_end : (front rest : List Record) → ends ∷ [] ≡ front ++ rest → rest ≢ [] → front ≡ []
one_end [] rest is some = refl
one_end (x ∷ front) rest is some = absurd (some (none front rest (same_rest ends x [] (front ++ rest) is)))
  where
    none : (front rest : List Record) → [] ≡ front ++ rest → rest ≡ []
    none [] rest is = sym is
    none (x ∷ front) rest is = cc

pieces_front : (so_far : SoFar) (groups : List (List Saved)) (front rest : List Record) → map holds groups ++ ends ∷ [] ≡ front ++ rest → rest ≢ []
    → (fold with_record so_far front).whole ≡ so_far.whole
pieces_front so_far [] front rest is some = ap (λ (l : List Record). (fold with_record so_far l).whole) (one_end front rest is some)
pieces_front so_far (g ∷ groups) [] rest is some = refl
pieces_front so_far (g ∷ groups) (x ∷ front) rest is some =
    let first : holds g ≡ x = same_first (holds g) x (map holds groups ++ ends ∷ []) (front ++ rest) is in
    ap (λ (r : Record). (fold with_record (with_record so_far r) front).whole) (sym first)
    ∙ pieces_front (with_record so_far (holds g)) groups front rest (same_rest (holds g) x (map holds groups ++ ends ∷ []) (front ++ rest) is) some

front_whole : (so_far : SoFar) (at : OpTime) (groups : List (List Saved)) (front rest : List Record) → begins at ∷ (map holds groups ++ ends ∷ []) ≡ front ++ rest → rest ≢ []
    → (fold with_record so_far front).whole ≡ so_far.whole
front_whole so_far at groups [] rest is some = refl
front_whole so_far at groups (x ∷ front) rest is some =
    let first : begins at ≡ x = same_first (begins at) x (map holds groups ++ ends ∷ []) (front ++ rest) is in
    ap (λ (r : Record). (fold with_record (with_record so_far r) front).whole) (sym first)
    ∙ pieces_front (with_record so_far (begins at)) groups front rest (same_rest (begins at) x (map holds groups ++ ends ∷ []) (front ++ rest) is) some

-- a checkpoint that was not ended doesn't count
pub front_keeps : (records : List Record) (at : OpTime) (documents : List Saved) (front rest : List Record) → checkpoint_of at documents ≡ front ++ rest → rest ≢ []
    → last_whole (records ++ front) ≡ last_whole records
front_keeps records at documents front rest is some =
    ap (λ (s : SoFar). s.whole) (fold-append with_record nothing_yet records front)
    ∙ front_whole (fold with_record nothing_yet records) at (first_chunks PIECE ((length documents + 999) / PIECE) documents) front rest is some

-- ---- a whole one counts

joined : List (List Saved) → List Saved
joined [] = []
joined (g ∷ groups) = g ++ joined groups

begun_with : (whole stable : Stable) (groups : List (List Saved))
    → (fold with_record (record { whole = whole; begun = Some stable }) (map holds groups ++ ends ∷ [])).whole
    ≡ record { at = stable.at; documents = with_documents stable.documents (joined groups) }
unfolding joined
begun_with whole stable [] = refl
begun_with whole stable (g ∷ groups) =
    begun_with whole (record { at = stable.at; documents = with_documents stable.documents g }) groups
    ∙ ap (λ (d : Documents). record { at = stable.at; documents = d }) (sym (fold-append (λ (so_far : Documents) (saved : Saved). insert so_far saved.0 saved.1) stable.documents g (joined groups)))

chunks_join : (n k : ℕ) (documents : List Saved) → length documents ≤ n * k → joined (first_chunks n k documents) ≡ documents
unfolding joined
chunks_join n zero documents few = none documents (omega (arith, few))
  where
    none : (l : List Saved) → length l ≤ 0 → [] ≡ l
    none [] few = refl
    none (x ∷ l) few = absurd (omega arith)
chunks_join n (suc k) documents few =
    ap (λ (l : List Saved). take n documents ++ l) (chunks_join n k (drop n documents) (omega (arith, few, length-drop n documents)))
    ∙ take-append-drop n documents

enough : (n : ℕ) → n ≤ 1000 * ((n + 999) / 1000)
enough n = omega arith

pub whole_counts : (records : List Record) (at : OpTime) (documents : List Saved)
    → last_whole (records ++ checkpoint_of at documents) ≡ record { at = at; documents = with_documents empty documents }
whole_counts records at documents =
    ap (λ (s : SoFar). s.whole) (fold-append with_record nothing_yet records (checkpoint_of at documents))
    ∙ begun_with (last_whole records) (record { at = at; documents = empty }) (first_chunks PIECE ((length documents + 999) / PIECE) documents)
    ∙ ap (λ (l : List Saved). record { at = at; documents = with_documents empty l })
    (chunks_join PIECE ((length documents + 999) / PIECE) documents (enough (length documents)))

-- ---- the documents of a map, put in one after another, make the map

tested : (a b : Bool) → T (a && b) → T a × T b
tested true b p = (tt, p)
tested false b p = absurd p

less : (o : Ordering) → T (is_lt o) → o ≡ Less
less Less p = refl
less Equal p = absurd p
less Greater p = absurd p

missing : (q : Place) (es : List Saved) → T (below_all place_cmp q es) → find place_cmp q es ≡ None
missing q [] below = refl
missing q (e ∷ es) below =
    let both = tested (is_lt (place_cmp q e.0)) (below_all place_cmp q es) below in
    ap (λ r. cond (is_eq r) (Some e.1) (find place_cmp q es)) (less (place_cmp q e.0) both.0) ∙ missing q es both.1

or_else : {X : Type 0} → Option X → Option X → Option X
or_else None other = other
or_else (Some x) other = Some x

put_in : (documents : Documents) (es : List Saved) → T (is_sorted place_cmp es) → (q : Place)
    → get (with_documents documents es) q ≡ or_else (find place_cmp q es) (get documents q)
unfolding or_else
put_in documents [] sorted q = refl
put_in documents (e ∷ es) sorted q =
    let both = tested (below_all place_cmp e.0 es) (is_sorted place_cmp es) sorted in
    put_in (insert documents e.0 e.1) es both.1 q
    ∙ ap (λ o. or_else (find place_cmp q es) o) (get-insert place_cmp-total documents e.0 e.1 q)
    ∙ here (eq_by_cmp place_cmp q e.0) refl (missing e.0 es both.0)
  where
    here : (b : Bool) → eq_by_cmp place_cmp q e.0 ≡ b → find place_cmp e.0 es ≡ None
        → or_else (find place_cmp q es) (cond b (Some e.1) (get documents q)) ≡ or_else (cond b (Some e.1) (find place_cmp q es)) (get documents q)
    here true same none = ap (λ o. or_else o (Some e.1)) (ap (λ (p : Place). find place_cmp p es) (place_cmp-antisymmetric q e.0 ((Equal-is _).0 same)) ∙ none)
    here false other none = refl

or_none : (o : Option Fields) → or_else o None ≡ o
unfolding or_else
or_none None = refl
or_none (Some x) = refl

pub get_all_put_in : (es : List Saved) → T (is_sorted place_cmp es) → (q : Place) → get (with_documents empty es) q ≡ find place_cmp q es
get_all_put_in es sorted q =
    put_in empty es sorted q ∙ ap (λ o. or_else (find place_cmp q es) o) (get-empty place_cmp q) ∙ or_none (find place_cmp q es)

all_put_in : (documents : Documents) → with_documents empty (entries documents) ≡ documents
all_put_in documents =
    same_map place_cmp-total place_cmp-antisymmetric _ _ (λ q.
    get_all_put_in (entries documents) (entries_sorted documents) q ∙ sym (get-entries documents q))

pub checkpoint_counts : (records : List Record) (stable : Stable) → last_whole (records ++ checkpoint stable) ≡ stable
checkpoint_counts records stable =
    whole_counts records stable.at (entries stable.documents)
    ∙ ap (λ (d : Documents). record { at = stable.at; documents = d }) (all_put_in stable.documents)
