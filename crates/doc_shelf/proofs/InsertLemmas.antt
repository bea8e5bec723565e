-- An entry in the middle of a log has the effect that it has after all later entries that
-- touch other documents.
use Rattle.std.proofs.Common.{◌≡◌, ℕ, suc, ◌+◌, ◌≤◌, cond, Bool, true, false, List, [], ◌∷◌, ◌++◌, length, take, drop, insert, fold, subst, ◌-◌, Option, None, Some, refl, sym, ap, ◌∙◌, arith}
use Rattle.std.specs.Cmp.{Equal-is, eq_by_cmp_equiv}
use Rattle.std.specs.Ordering.{eq_by_cmp}
use Rattle.std.specs.FinMap.{get, same_map}
use Rattle.std.specs.List.{All}
use Rattle.std.proofs.lemmas.List.{length-append, length-take-le, take-append-drop, take-append-le}
use Rattle.std.proofs.lemmas.List.Elements.{All-head, All-tail, All-take}
use Rattle.std.proofs.lemmas.List.Edits.{insert-append_left, insert_end, length-insert}
use Rattle.std.proofs.lemmas.List.Sums.{fold-append}
use Rattle.bson_doc.specs.Tree.{Fields}
use Rattle.bson_doc.specs.Place.{Place, place_cmp}
use Rattle.bson_doc.proofs.KeyLemmas.{place_cmp-total, place_cmp-antisymmetric}
use Rattle.oplog_entry.specs.Docs.{Documents, applied}
use Rattle.oplog_entry.specs.Step.{place_of, document_after}
use Rattle.oplog_entry.specs.declared.entry.Entry.{Entry}
use Rattle.oplog_entry.proofs.DocsLemmas.{applied-nothing, get-applied, get-applied-other}
use Rattle.doc_shelf.specs.Shelf.{AreApart, Before, IsOfFront, Shelf, empty_shelf, shelf_of, stood_at, stood_before, with_applied}
use Rattle.doc_shelf.proofs.ShelfLemmas.{length_shelf, same_parts, take_past}

-- the same by the order of places
abbrev Apart : Entry → Entry → Type 0
Apart one other = (p q : Place) → place_of one.op ≡ Some p → place_of other.op ≡ Some q → eq_by_cmp place_cmp q p ≡ false

turned : (p q : Place) → eq_by_cmp place_cmp q p ≡ false → eq_by_cmp place_cmp p q ≡ false
turned p q apart = (eq_by_cmp_equiv place_cmp-total).symm p q ∙ apart

apart_by_order : (one other : Entry) → AreApart one other → Apart one other
apart_by_order one other apart p q is_p is_q = by_test (eq_by_cmp place_cmp q p) refl
  where
    by_test : (b : Bool) → eq_by_cmp place_cmp q p ≡ b → eq_by_cmp place_cmp q p ≡ false
    by_test false is = is
    by_test true is =
        let same : q ≡ p = place_cmp-antisymmetric q p ((Equal-is _).0 is) in absurd (apart p is_p (is_q ∙ ap (λ (x : Place). Some x) same))

-- what stands at the other's place stays
stood_apart : (documents : Documents) (one other : Entry) → Apart one other → stood_before (applied documents one) other ≡ stood_before documents other
stood_apart documents one other apart = by_places (place_of one.op) (place_of other.op) refl refl
  where
    by_places : (p q : Option Place) → place_of one.op ≡ p → place_of other.op ≡ q → stood_before (applied documents one) other ≡ stood_before documents other
    by_places None q is_p is_q = ap (λ (d : Documents). stood_before d other) (applied-nothing documents one is_p)
    by_places (Some p) None is_p is_q = ap (stood_at (applied documents one)) is_q ∙ sym (ap (stood_at documents) is_q)
    by_places (Some p) (Some q) is_p is_q =
        ap (stood_at (applied documents one)) is_q
        ∙ ap (λ (x : Option Fields). Some (q, x)) (get-applied-other documents one p q is_p (apart p q is_p is_q))
        ∙ sym (ap (stood_at documents) is_q)

-- of two tests that never both pass, either comes first
chosen : (b c : Bool) (x y z : Option Fields) → (b ≡ true → c ≡ true → ⊥) → cond b x (cond c y z) ≡ cond c y (cond b x z)
chosen true true x y z never = absurd (never refl refl)
chosen true false x y z never = refl
chosen false true x y z never = refl
chosen false false x y z never = refl

-- they may change places
swapped : (documents : Documents) (one other : Entry) → Apart one other → applied (applied documents one) other ≡ applied (applied documents other) one
swapped documents one other apart = by_places (place_of one.op) (place_of other.op) refl refl
  where
    by_places : (p q : Option Place) → place_of one.op ≡ p → place_of other.op ≡ q → applied (applied documents one) other ≡ applied (applied documents other) one
    by_places None q is_p is_q = ap (λ (d : Documents). applied d other) (applied-nothing documents one is_p) ∙ sym (applied-nothing (applied documents other) one is_p)
    by_places (Some p) None is_p is_q = applied-nothing (applied documents one) other is_q ∙ ap (λ (d : Documents). applied d one) (sym (applied-nothing documents other is_q))
    by_places (Some p) (Some q) is_p is_q =
        same_map place_cmp-total place_cmp-antisymmetric _ _ (λ r.
        left r
        ∙ chosen (eq_by_cmp place_cmp r q) (eq_by_cmp place_cmp r p) (document_after other.op (get documents q)) (document_after one.op (get documents p)) (get documents r) (both_here r)
        ∙ sym (right r))
      where
        away : eq_by_cmp place_cmp q p ≡ false
        away = apart p q is_p is_q

        left : (r : Place) → get (applied (applied documents one) other) r ≡ cond (eq_by_cmp place_cmp r q) (document_after other.op (get documents q)) (cond (eq_by_cmp place_cmp r p) (document_after one.op (get documents p)) (get documents r))
        left r =
            get-applied (applied documents one) other q r is_q
            ∙ ap (λ (x : Option Fields). cond (eq_by_cmp place_cmp r q) (document_after other.op x) (get (applied documents one) r)) (get-applied-other documents one p q is_p away)
            ∙ ap (cond (eq_by_cmp place_cmp r q) (document_after other.op (get documents q))) (get-applied documents one p r is_p)

        right : (r : Place) → get (applied (applied documents other) one) r ≡ cond (eq_by_cmp place_cmp r p) (document_after one.op (get documents p)) (cond (eq_by_cmp place_cmp r q) (document_after other.op (get documents q)) (get documents r))
        right r =
            get-applied (applied documents other) one p r is_p
            ∙ ap (λ (x : Option Fields). cond (eq_by_cmp place_cmp r p) (document_after one.op x) (get (applied documents other) r)) (get-applied-other documents other q p is_q (turned p q away))
            ∙ ap (cond (eq_by_cmp place_cmp r p) (document_after one.op (get documents p))) (get-applied documents other q r is_q)

        both_here : (r : Place) → eq_by_cmp place_cmp r q ≡ true → eq_by_cmp place_cmp r p ≡ true → ⊥
        both_here r at_q at_p =
            let is_q2 : r ≡ q = place_cmp-antisymmetric r q ((Equal-is _).0 at_q) in
            cc (ap (λ (x : Place). eq_by_cmp place_cmp x p) (sym is_q2), at_p, away)

-- ---- entries after the place

-- a shelf is another one with an entry put in at a place
record IsInserted (place : ℕ) (entry : Entry) (stood : Before) (old new : Shelf) : Type 0 where
  documents : new.documents ≡ applied old.documents entry
  before : new.before ≡ insert old.before place stood
  stands : stood_before old.documents entry ≡ stood
  within : place ≤ length old.before

insert_more : (xs : List Before) (place : ℕ) (x y : Before) → place ≤ length xs → insert xs place x ++ y ∷ [] ≡ insert (xs ++ y ∷ []) place x
insert_more xs place x y within = sym (insert-append_left xs (y ∷ []) place x within)

one_after : (place : ℕ) (entry other : Entry) (stood : Before) (old new : Shelf) → Apart entry other → Apart other entry → IsInserted place entry stood old new
    → IsInserted place entry stood (with_applied old other) (with_applied new other)
one_after place entry other stood old new apart apart_too is = record {
  documents = ap (λ (d : Documents). applied d other) is.documents ∙ swapped old.documents entry other apart;
  before =
      ap (λ (b : List Before). b ++ stood_before new.documents other ∷ []) is.before
      ∙ ap (λ (x : Before). insert old.before place stood ++ x ∷ []) (ap (λ (d : Documents). stood_before d other) is.documents ∙ stood_apart old.documents entry other apart)
      ∙ insert_more old.before place stood (stood_before old.documents other) is.within;
  stands = stood_apart old.documents other entry apart_too ∙ is.stands;
  within = omega (arith, is.within, length-append old.before (stood_before old.documents other ∷ []));
}

all_after : (place : ℕ) (entry : Entry) (stood : Before) (old new : Shelf) (later : List Entry) → All (AreApart entry) later → IsInserted place entry stood old new
    → IsInserted place entry stood (fold with_applied old later) (fold with_applied new later)
all_after place entry stood old new [] all is = is
all_after place entry stood old new (other ∷ later) all is =
    let apart : Apart entry other = apart_by_order entry other (All-head (AreApart entry) other later all) in
    let apart_too : Apart other entry = λ p q is_q is_p. turned q p (apart q p is_p is_q) in
    all_after place entry stood (with_applied old other) (with_applied new other) later (All-tail (AreApart entry) other later all) (one_after place entry other stood old new apart apart_too is)

-- ---- an entry put into a log

-- after the prefix that is applied
pub still_front : (log : List Entry) (shelf : Shelf) (place : ℕ) (entry : Entry) → IsOfFront log shelf → place ≤ length log → length shelf.before ≤ place → IsOfFront (insert log place entry) shelf
still_front log shelf place entry front within after =
    let count : ℕ = length shelf.before in
    let own : count ≤ length (take place log) = omega (arith, after, length-take-le place log within) in
    let same : take count (insert log place entry) ≡ take count log =
    take-append-le count (take place log) (entry ∷ drop place log) own
    ∙ sym (take-append-le count (take place log) (drop place log) own)
    ∙ ap (take count) (take-append-drop place log) in
    record { within = omega (arith, front.within, length-insert log place entry within); is = front.is ∙ ap shelf_of (sym same) }

-- so many entries of a log, and then those after them
pub parted : (log other : List Entry) (place more : ℕ) → place ≤ length log → take (place + more) (take place log ++ other) ≡ take place log ++ take more other
parted log other place more within =
    ap (λ (n : ℕ). take (n + more) (take place log ++ other)) (sym (length-take-le place log within)) ∙ take_past (take place log) other more

-- in the prefix that is applied, where no entry after it touches its document
put_in_front : (log : List Entry) (old new : Shelf) (place more : ℕ) (entry : Entry) → IsOfFront log old → place + more ≡ length old.before → place ≤ length log
    → All (AreApart entry) (drop place log)
    → new.documents ≡ applied old.documents entry → new.before ≡ insert old.before place (stood_before old.documents entry)
    → IsOfFront (insert log place entry) new
put_in_front log old new place more entry front counts in_log apart documents before =
    record { within = omega (arith, front.within, longer, length-insert log place entry in_log); is = is }
  where
    first : List Entry
    first = take place log

    later : List Entry
    later = take more (drop place log)

    base : Shelf
    base = shelf_of first

    applied_front : take (length old.before) log ≡ first ++ later
    applied_front = ap (λ (n : ℕ). take n log) (sym counts) ∙ ap (take (place + more)) (sym (take-append-drop place log)) ∙ parted log (drop place log) place more in_log

    old_is : old ≡ fold with_applied base later
    old_is = front.is ∙ ap shelf_of applied_front ∙ fold-append with_applied empty_shelf first later

    base_count : length base.before ≡ place
    base_count = length_shelf first ∙ length-take-le place log in_log

    begun : IsInserted place entry (stood_before base.documents entry) base (with_applied base entry)
    begun = record {
      documents = refl;
      before = sym (ap (λ (n : ℕ). insert base.before n (stood_before base.documents entry)) (sym base_count) ∙ insert_end base.before (stood_before base.documents entry));
      stands = refl;
      within = omega (arith, base_count);
    }

    made : Shelf
    made = fold with_applied (with_applied base entry) later

    done : IsInserted place entry (stood_before base.documents entry) old made
    done =
        let at_base = all_after place entry (stood_before base.documents entry) base (with_applied base entry) later (All-take (AreApart entry) more (drop place log) apart) begun in
        subst (λ (s : Shelf). IsInserted place entry (stood_before base.documents entry) s made) (sym old_is) at_base

    new_is : new ≡ made
    new_is = same_parts new made (documents ∙ sym done.documents) (before ∙ ap (insert old.before place) done.stands ∙ sym done.before)

    longer : length new.before ≡ place + suc more
    longer = omega (arith, counts, ap length before, length-insert old.before place (stood_before old.documents entry) (omega (arith, counts)))

    is : new ≡ shelf_of (take (length new.before) (insert log place entry))
    is =
        new_is ∙ sym (fold-append with_applied empty_shelf first (entry ∷ later))
        ∙ ap shelf_of (sym (parted log (entry ∷ drop place log) place (suc more) in_log))
        ∙ ap (λ (n : ℕ). shelf_of (take n (insert log place entry))) (sym longer)

pub put_in : (log : List Entry) (old new : Shelf) (place : ℕ) (entry : Entry) → IsOfFront log old → place ≤ length old.before → place ≤ length log
    → All (AreApart entry) (drop place log)
    → new.documents ≡ applied old.documents entry → new.before ≡ insert old.before place (stood_before old.documents entry)
    → IsOfFront (insert log place entry) new
put_in log old new place entry front within in_log =
    put_in_front log old new place (length old.before - place) entry front (omega (arith, within)) in_log
