-- The documents that a log leaves, place by place: each of its prefixes leaves there what may be stored.
use Rattle.std.proofs.Common.{◌≡◌, ◌∙◌, ◌≤◌, ◌<◌, inl, inr, ap, sym, subst, refl, arith, ltb-false, ℕ, T, Bool, true, false, ◌&&◌, cond, nat_lt, fold, Option, None, Some, List, [], ◌∷◌, ◌++◌}
use Rattle.std.specs.Cmp.{tied_itself, Equal-is}
use Rattle.std.specs.FinMap as maps
use Rattle.std.specs.FinMap.Entries.{below_all}
use Rattle.std.specs.List.{All}
use Rattle.std.specs.Ordering.{eq_by_cmp, is_eq, is_lt}
use Rattle.std.specs.Prelude.{slice_index_or}
use Rattle.std.specs.declared.cmp.Ordering.{Ordering}
use Rattle.std.specs.declared.cmp.Ordering.TheVariants.{Less, Equal, Greater}
use Rattle.rs_optime.specs.Membership.{In}
use Rattle.bson_doc.proofs.KeyLemmas.{place_cmp-total, place_cmp-antisymmetric}
use Rattle.bson_doc.specs.Place.{Place, place_cmp}
use Rattle.bson_doc.specs.Tree.{Fields}
use Rattle.doc_update.specs.Effect.{is_too_large}
use Rattle.doc_update.proofs.StoredLemmas.{IsStored}
use Rattle.oplog_entry.specs.Docs.{Documents, docs, applied}
use Rattle.oplog_entry.specs.Step.{place_of, document_after, is_at}
use Rattle.oplog_entry.specs.declared.entry.Entry.{Entry}
use Rattle.oplog_store.specs.Log.{with_entry}
use Rattle.set_model.proofs.HoldLemmas.{get-step}
use Rattle.commit_machine.specs.Words.{Begins, Follows, Rises}
use Rattle.safety_laws.proofs.Places.{in_at}
use Rattle.safety_laws.proofs.Steps.{in_has}

-- ---- one place

-- what an entry leaves at a place
abbrev pub next_at : Place → Option Fields → Entry → Option Fields
next_at place before entry = cond (is_at (place_of entry.op) place) (document_after entry.op before) before

-- and what a log leaves there
abbrev pub doc_from : Place → Option Fields → List Entry → Option Fields
doc_from place before [] = before
doc_from place before (entry ∷ log) = doc_from place (next_at place before entry) log

abbrev pub doc_at : Place → List Entry → Option Fields
doc_at place log = doc_from place None log

-- each prefix of a log leaves at a place what may be stored
abbrev pub AreStoredFrom : Place → Option Fields → List Entry → Type 0
AreStoredFrom place before [] = IsStored place before
AreStoredFrom place before (entry ∷ log) = IsStored place before × AreStoredFrom place (next_at place before entry) log

abbrev pub AreStored : List Entry → Type 0
AreStored log = (place : Place) → AreStoredFrom place None log

first_stored : (place : Place) (before : Option Fields) (log : List Entry) → AreStoredFrom place before log → IsStored place before
first_stored place before [] stored = stored
first_stored place before (entry ∷ log) stored = stored.0

stored_left : (place : Place) (before : Option Fields) (front rest : List Entry) → AreStoredFrom place before (front ++ rest) → AreStoredFrom place before front
stored_left place before [] rest stored = first_stored place before rest stored
stored_left place before (entry ∷ front) rest stored = (stored.0, stored_left place (next_at place before entry) front rest stored.1)

pub stored_front : (front log : List Entry) → Begins front log → AreStored log → AreStored front
stored_front front log begins stored place = stored_left place None front begins.0 (subst (λ l. AreStoredFrom place None l) begins.1 (stored place))

stored_last : (place : Place) (before : Option Fields) (log : List Entry) → AreStoredFrom place before log → IsStored place (doc_from place before log)
stored_last place before [] stored = stored
stored_last place before (entry ∷ log) stored = stored_last place (next_at place before entry) log stored.1

-- it is what the log's documents have at the place
doc_fold : (place : Place) (before : Option Fields) (documents : Documents) (log : List Entry) → before ≡ maps.get documents place → doc_from place before log ≡ maps.get (fold applied documents log) place
doc_fold place before documents [] is = is
doc_fold place before documents (entry ∷ log) is =
    doc_fold place (next_at place before entry) (applied documents entry) log
    (ap (λ d. cond (is_at (place_of entry.op) place) (document_after entry.op d) d) is ∙ sym (get-step documents entry place))

pub doc_docs : (place : Place) (log : List Entry) → doc_at place log ≡ maps.get (docs log) place
doc_docs place log = doc_fold place None maps.empty log (sym (maps.get-empty place_cmp place))

pub stored_docs : (log : List Entry) → AreStored log → (place : Place) → IsStored place (maps.get (docs log) place)
stored_docs log stored place = subst (λ d. IsStored place d) (doc_docs place log) (stored_last place None log (stored place))

-- ---- all places

first_of : (a b : Bool) → T (a && b) → T a
first_of true b both = tt
first_of false b both = absurd both

second_of : (a b : Bool) → T (a && b) → T b
second_of true b both = both
second_of false b both = absurd both

is_less : (r : Ordering) → T (is_lt r) → r ≡ Less
is_less Less is = refl
is_less Equal is = absurd is
is_less Greater is = absurd is

below : (place : Place) (es : List (Place × Fields)) → T (below_all place_cmp place es) → (e : Place × Fields) → In e es → place_cmp place e.0 ≡ Less
below place [] all e there = absurd there
below place (first ∷ es) all e (inl same) = subst (λ (x : Place × Fields). place_cmp place x.0 ≡ Less) same (is_less (place_cmp place first.0) (first_of _ _ all))
below place (first ∷ es) all e (inr there) = below place es (second_of _ _ all) e there

-- each entry of a map is found at its key
pub found_entry : (es : List (Place × Fields)) → T (maps.is_sorted place_cmp es) → (e : Place × Fields) → In e es → maps.find place_cmp e.0 es ≡ Some e.1
found_entry [] sorted e there = absurd there
found_entry (first ∷ es) sorted e (inl same) =
    subst (λ (x : Place × Fields). maps.find place_cmp x.0 (first ∷ es) ≡ Some x.1) same
    (ap (λ r. cond (is_eq r) (Some first.1) (maps.find place_cmp first.0 es)) (tied_itself place_cmp-total first.0))
found_entry (first ∷ es) sorted e (inr there) = by_test (eq_by_cmp place_cmp e.0 first.0) refl (found_entry es (second_of _ _ sorted) e there)
  where
    less : place_cmp first.0 e.0 ≡ Less
    less = below first.0 es (first_of _ _ sorted) e there

    by_test : (b : Bool) → eq_by_cmp place_cmp e.0 first.0 ≡ b → maps.find place_cmp e.0 es ≡ Some e.1 → cond b (Some first.1) (maps.find place_cmp e.0 es) ≡ Some e.1
    by_test true tied later =
        let same : e.0 ≡ first.0 = place_cmp-antisymmetric e.0 first.0 ((Equal-is _).0 tied) in
        let equal : place_cmp first.0 e.0 ≡ Equal = ap (λ p. place_cmp first.0 p) same ∙ tied_itself place_cmp-total first.0 in
        absurd (cc (less, equal))
    by_test false apart later = later

-- no document of such a log is too large
pub none_too_large : (log : List Entry) → AreStored log → All (λ e. is_too_large e.1 ≡ false) (maps.entries (docs log))
none_too_large log stored k d within =
    let there : In (slice_index_or (maps.entries (docs log)) k d) (maps.entries (docs log)) = in_at (maps.entries (docs log)) k d within in
    (subst (λ found. IsStored (slice_index_or (maps.entries (docs log)) k d).0 found)
    (maps.get-entries (docs log) (slice_index_or (maps.entries (docs log)) k d).0 ∙ found_entry (maps.entries (docs log)) (maps.entries_sorted (docs log)) (slice_index_or (maps.entries (docs log)) k d) there)
    (stored_docs log stored (slice_index_or (maps.entries (docs log)) k d).0)).2

-- ---- an entry at its place in the log

-- an entry of another document leaves what stands at the place
pub other_doc : (place : Place) (entry : Entry) → is_at (place_of entry.op) place ≡ false → (before : Option Fields) (log : List Entry) → doc_from place before (with_entry log entry) ≡ doc_from place before log
other_doc place entry other before [] = ap (λ b. cond b (document_after entry.op before) before) other
other_doc place entry other before (first ∷ log) = by_test (nat_lt first.optime.ts entry.optime.ts) (other_doc place entry other (next_at place before first) log)
  where
    by_test : (b : Bool) → doc_from place (next_at place before first) (with_entry log entry) ≡ doc_from place (next_at place before first) log
        → doc_from place before (cond b (first ∷ with_entry log entry) (entry ∷ first ∷ log)) ≡ doc_from place before (first ∷ log)
    by_test true later = later
    by_test false later = ap (λ b. doc_from place (cond b (document_after entry.op before) before) (first ∷ log)) other

other_stored : (place : Place) (entry : Entry) → is_at (place_of entry.op) place ≡ false → (before : Option Fields) (log : List Entry) → AreStoredFrom place before log → AreStoredFrom place before (with_entry log entry)
other_stored place entry other before [] stored = (stored, subst (λ b. IsStored place (cond b (document_after entry.op before) before)) (sym other) stored)
other_stored place entry other before (first ∷ log) stored = by_test (nat_lt first.optime.ts entry.optime.ts) (other_stored place entry other (next_at place before first) log stored.1)
  where
    by_test : (b : Bool) → AreStoredFrom place (next_at place before first) (with_entry log entry) → AreStoredFrom place before (cond b (first ∷ with_entry log entry) (entry ∷ first ∷ log))
    by_test true later = (stored.0, later)
    by_test false later = (stored.0, subst (λ b. AreStoredFrom place (cond b (document_after entry.op before) before) (first ∷ log)) (sym other) stored)

-- the entries that touch a place are before a time
abbrev pub AreEarlier : Place → ℕ → List Entry → Type 0
AreEarlier place ts log = (other : Entry) → In other log → is_at (place_of other.op) place ≡ true → other.optime.ts < ts

-- where none touches it, what stands there stays
abbrev AreApart : Place → List Entry → Type 0
AreApart place log = (other : Entry) → In other log → is_at (place_of other.op) place ≡ false

apart_doc : (place : Place) (before : Option Fields) (log : List Entry) → AreApart place log → doc_from place before log ≡ before
apart_doc place before [] apart = refl
apart_doc place before (first ∷ log) apart =
    ap (λ b. doc_from place (cond b (document_after first.op before) before) log) (apart first (inl refl)) ∙ apart_doc place before log (λ other there. apart other (inr there))

apart_stored : (place : Place) (before : Option Fields) (log : List Entry) → AreApart place log → IsStored place before → AreStoredFrom place before log
apart_stored place before [] apart stored = stored
apart_stored place before (first ∷ log) apart stored = (
  stored,
  subst (λ b. AreStoredFrom place (cond b (document_after first.op before) before) log) (sym (apart first (inl refl))) (apart_stored place before log (λ other there. apart other (inr there)) stored),
)

-- from an entry that isn't earlier on, none touches such a place
late_apart : (place : Place) (ts : ℕ) (first : Entry) (log : List Entry) → nat_lt first.optime.ts ts ≡ false → Rises (first ∷ log) → AreEarlier place ts (first ∷ log) → AreApart place (first ∷ log)
late_apart place ts first log late rises earlier other there = by_test (is_at (place_of other.op) place) refl
  where
    after : In other (first ∷ log) → ts ≤ other.optime.ts
    after (inl same) = let from : ts ≤ first.optime.ts = ltb-false first.optime.ts ts late in let is : first.optime.ts ≡ other.optime.ts = ap (λ (e : Entry). e.optime.ts) same in omega (arith, from, is)
    after (inr tail) = let from : ts ≤ first.optime.ts = ltb-false first.optime.ts ts late in let follows : Follows first.optime other.optime = rises.0 other.optime (in_has other log tail) in
        omega (arith, from, follows.0)

    by_test : (b : Bool) → is_at (place_of other.op) place ≡ b → is_at (place_of other.op) place ≡ false
    by_test false is = is
    by_test true is = let before : other.optime.ts < ts = earlier other there is in let from : ts ≤ other.optime.ts = after there in absurd (omega (arith, before, from))

here_stored : (place : Place) (entry : Entry) → is_at (place_of entry.op) place ≡ true → (before : Option Fields) (log : List Entry) → Rises log → AreEarlier place entry.optime.ts log
    → AreStoredFrom place before log → IsStored place (document_after entry.op (doc_from place before log)) → AreStoredFrom place before (with_entry log entry)
here_stored place entry here before [] rises earlier stored new = (stored, subst (λ b. IsStored place (cond b (document_after entry.op before) before)) (sym here) new)
here_stored place entry here before (first ∷ log) rises earlier stored new =
    by_test (nat_lt first.optime.ts entry.optime.ts) refl (here_stored place entry here (next_at place before first) log rises.1 (λ other there. earlier other (inr there)) stored.1 new)
  where
    by_test : (b : Bool) → nat_lt first.optime.ts entry.optime.ts ≡ b → AreStoredFrom place (next_at place before first) (with_entry log entry)
        → AreStoredFrom place before (cond b (first ∷ with_entry log entry) (entry ∷ first ∷ log))
    by_test true is later = (stored.0, later)
    by_test false is later =
        let apart : AreApart place (first ∷ log) = late_apart place entry.optime.ts first log is rises earlier in (
          stored.0,
          subst (λ b. AreStoredFrom place (cond b (document_after entry.op before) before) (first ∷ log)) (sym here)
              (apart_stored place (document_after entry.op before) (first ∷ log) apart (subst (λ d. IsStored place (document_after entry.op d)) (apart_doc place before (first ∷ log) apart) new)),
        )

-- a log with an entry more: at the place that the entry touches it is the newest, and what it leaves may be stored
pub stored_with : (log : List Entry) (entry : Entry) → Rises log → AreStored log
    → ((place : Place) → is_at (place_of entry.op) place ≡ true → IsStored place (document_after entry.op (doc_at place log)) × AreEarlier place entry.optime.ts log)
    → AreStored (with_entry log entry)
stored_with log entry rises stored here place = by_test (is_at (place_of entry.op) place) refl
  where
    by_test : (b : Bool) → is_at (place_of entry.op) place ≡ b → AreStoredFrom place None (with_entry log entry)
    by_test true is = here_stored place entry is None log rises (here place is).1 (stored place) (here place is).0
    by_test false is = other_stored place entry is None log (stored place)
