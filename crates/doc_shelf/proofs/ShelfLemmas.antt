-- Undoing an entry leaves the documents that were there before it.
use Rattle.std.proofs.Common.{◌≡◌, ℕ, suc, ◌+◌, ◌<◌, cond, Bool, true, false, List, [], ◌∷◌, ◌++◌, length, take, get_or, fold, Option, None, Some, refl, sym, ap, subst, ◌∙◌, arith}
use Rattle.std.specs.Cmp.{Equal-is}
use Rattle.std.specs.Ordering.{eq_by_cmp}
use Rattle.std.specs.FinMap.{get, same_map}
use Rattle.std.proofs.lemmas.List.{get_or_default, length-append, length-take-le, take_more}
use Rattle.std.proofs.lemmas.List.Sums.{fold-append}
use Rattle.bson_doc.specs.Tree.{Fields}
use Rattle.bson_doc.specs.Place.{Place, place_cmp}
use Rattle.bson_doc.proofs.KeyLemmas.{place_cmp-total, place_cmp-antisymmetric}
use Rattle.oplog_entry.specs.Docs.{Documents, docs, put_at, applied, applied_at}
use Rattle.oplog_entry.specs.Step.{place_of, document_after}
use Rattle.oplog_entry.specs.declared.entry.Entry.{Entry}
use Rattle.oplog_entry.proofs.DocsLemmas.{get-put_at, applied-nothing}
use Rattle.doc_shelf.specs.Shelf.{Before, IsOfFront, Shelf, empty_shelf, stood_at, stood_before, with_applied, shelf_of}

-- so many of two lists as the first has, and more of the second
pub take_past : (xs ys : List Entry) (more : ℕ) → take (length xs + more) (xs ++ ys) ≡ xs ++ take more ys
take_past [] ys more = let same : 0 + more ≡ more = omega arith in ap (λ (n : ℕ). take n ys) same
take_past (x ∷ xs) ys more =
    let same : length (x ∷ xs) + more ≡ suc (length xs + more) = omega arith in
    ap (λ (n : ℕ). take n (x ∷ (xs ++ ys))) same ∙ ap (λ (l : List Entry). x ∷ l) (take_past xs ys more)

-- what stands at a place, once something else was put there and then what stood before
put_back : (documents : Documents) (place : Place) (now : Option Fields) → put_at (put_at documents place now) place (get documents place) ≡ documents
put_back documents place now =
    same_map place_cmp-total place_cmp-antisymmetric _ _ (λ q. by_case q (eq_by_cmp place_cmp q place) refl)
  where
    by_case : (q : Place) (b : Bool) → eq_by_cmp place_cmp q place ≡ b → get (put_at (put_at documents place now) place (get documents place)) q ≡ get documents q
    by_case q true same =
        get-put_at (put_at documents place now) place (get documents place) q ∙ ap (λ (b : Bool). cond b (get documents place) (get (put_at documents place now) q)) same
        ∙ ap (get documents) (sym (place_cmp-antisymmetric q place ((Equal-is _).0 same)))
    by_case q false other =
        get-put_at (put_at documents place now) place (get documents place) q ∙ ap (λ (b : Bool). cond b (get documents place) (get (put_at documents place now) q)) other
        ∙ get-put_at documents place now q ∙ ap (λ (b : Bool). cond b now (get documents q)) other

-- an entry that touches a document is taken back
taken_back : (documents : Documents) (entry : Entry) (place : Place) → place_of entry.op ≡ Some place → put_at (applied documents entry) place (get documents place) ≡ documents
taken_back documents entry place at =
    ap (λ (d : Documents). put_at d place (get documents place)) (ap (applied_at documents entry.op) at) ∙ put_back documents place (document_after entry.op (get documents place))

-- ---- entries one by one

grows : (shelf : Shelf) (log : List Entry) → length (fold with_applied shelf log).before ≡ length shelf.before + length log
grows shelf [] = omega arith
grows shelf (entry ∷ log) =
    let one : length (shelf.before ++ stood_before shelf.documents entry ∷ []) ≡ length shelf.before + 1 = length-append shelf.before (stood_before shelf.documents entry ∷ []) in
    omega (arith, grows (with_applied shelf entry) log, one)

-- as many entries are taken back as were applied
pub length_shelf : (log : List Entry) → length (shelf_of log).before ≡ length log
length_shelf log = let so : length (shelf_of log).before ≡ 0 + length log = grows empty_shelf log in omega (arith, so)

shows : (shelf : Shelf) (log : List Entry) → (fold with_applied shelf log).documents ≡ fold applied shelf.documents log
shows shelf [] = refl
shows shelf (entry ∷ log) = shows (with_applied shelf entry) log

-- the documents are those of the log
pub documents_shelf : (log : List Entry) → (shelf_of log).documents ≡ docs log
documents_shelf log = shows empty_shelf log

-- the shelf of a prefix with the entry after it
shelf_more : (log : List Entry) (place : ℕ) (entry : Entry) → place < length log → entry ≡ get_or log place entry → shelf_of (take (place + 1) log) ≡ with_applied (shelf_of (take place log)) entry
shelf_more log place entry within is =
    ap shelf_of (take_more log place entry within ∙ ap (λ (e : Entry). take place log ++ e ∷ []) (sym is)) ∙ fold-append with_applied empty_shelf (take place log) (entry ∷ [])

-- one entry more is applied
pub one_more : (log : List Entry) (shelf : Shelf) (entry : Entry) (place : ℕ) → IsOfFront log shelf → place ≡ length shelf.before → place < length log → entry ≡ get_or log place entry
    → IsOfFront log (with_applied shelf entry) × (place + 1 ≡ length (with_applied shelf entry).before)
one_more log shelf entry place front at within is =
    let more : place + 1 ≡ length (with_applied shelf entry).before = omega (arith, at, length-append shelf.before (stood_before shelf.documents entry ∷ [])) in (
      record {
        within = omega (arith, more, within);
        is = ap (λ (s : Shelf). with_applied s entry) (front.is ∙ ap (λ (n : ℕ). shelf_of (take n log)) (sym at)) ∙ sym (shelf_more log place entry within is) ∙ ap (λ (n : ℕ). shelf_of (take n log)) more;
      },
      more,
    )

-- the last entry is taken back
pub one_less : (log : List Entry) (old new : Shelf) (place : ℕ) → IsOfFront log old → place + 1 ≡ length old.before → ((shelf : Shelf) (entry : Entry) → old ≡ with_applied shelf entry → new ≡ shelf)
    → IsOfFront log new × (place ≡ length new.before)
one_less log old new place front at back = by_entries log refl
  where
    by_entries : (entries : List Entry) → log ≡ entries → IsOfFront log new × (place ≡ length new.before)
    by_entries [] is = absurd (omega (arith, at, front.within, ap length is))
    by_entries (first ∷ later) is =
        let within : place < length log = omega (arith, at, front.within) in
        let entry : Entry = get_or log place first in
        let same : entry ≡ get_or log place entry = get_or_default log place first entry within in
        let made : old ≡ with_applied (shelf_of (take place log)) entry = front.is ∙ ap (λ (n : ℕ). shelf_of (take n log)) (sym at) ∙ shelf_more log place entry within same in
        let left : new ≡ shelf_of (take place log) = back (shelf_of (take place log)) entry made in
        let count : place ≡ length new.before = omega (arith, ap (λ (s : Shelf). length s.before) left, length_shelf (take place log), length-take-le place log (omega (arith, within)), within) in
        (record { within = omega (arith, count, within); is = left ∙ ap (λ (n : ℕ). shelf_of (take n log)) count }, count)

-- where no entry is applied
pub none_of_front : (log : List Entry) (shelf : Shelf) → shelf ≡ empty_shelf → IsOfFront log shelf
none_of_front log shelf none = subst (λ (s : Shelf). IsOfFront log s) (sym none) (record { within = omega arith; is = refl })

-- the shelf of a prefix of so many entries
pub of_count : (log : List Entry) (shelf : Shelf) (count : ℕ) → IsOfFront log shelf → count ≡ length shelf.before → shelf ≡ shelf_of (take count log)
of_count log shelf count front is = front.is ∙ ap (λ (n : ℕ). shelf_of (take n log)) (sym is)

-- ---- the last of what stood

-- what is popped from a shelf that an entry made is what stood before that entry
popped : (old : Shelf) (shelf : Shelf) (entry : Entry) (rest : List Before) (last : Before) → old ≡ with_applied shelf entry → old.before ≡ rest ++ last ∷ []
    → (rest ≡ shelf.before) × (last ≡ stood_before shelf.documents entry)
popped old shelf entry rest last made is =
    let same : rest ++ last ∷ [] ≡ shelf.before ++ stood_before shelf.documents entry ∷ [] = sym is ∙ ap (λ (s : Shelf). s.before) made in
    last_of_two rest shelf.before last (stood_before shelf.documents entry) same
  where
    last_of_two : (xs ys : List Before) (x y : Before) → xs ++ x ∷ [] ≡ ys ++ y ∷ [] → (xs ≡ ys) × (x ≡ y)
    last_of_two [] [] x y same = (refl, cc)
    last_of_two [] (b ∷ []) x y same = absurd (omega (arith, ap length same))
    last_of_two [] (b ∷ c ∷ ys) x y same = absurd (omega (arith, ap length same))
    last_of_two (a ∷ []) [] x y same = absurd (omega (arith, ap length same))
    last_of_two (a ∷ c ∷ xs) [] x y same = absurd (omega (arith, ap length same))
    last_of_two (a ∷ xs) (b ∷ ys) x y same =
        let later = last_of_two xs ys x y cc in (cc (later.0, same), later.1)

-- an entry that touches no document left the documents as they were
passed_back : (shelf : Shelf) (entry : Entry) → None ≡ stood_before shelf.documents entry → applied shelf.documents entry ≡ shelf.documents
passed_back shelf entry none = by_place (place_of entry.op) refl
  where
    by_place : (place : Option Place) → place_of entry.op ≡ place → applied shelf.documents entry ≡ shelf.documents
    by_place None is = applied-nothing shelf.documents entry is
    by_place (Some place) is = absurd (cc (none, ap (stood_at shelf.documents) is))

-- the parts of what stood
abbrev place_or : Before → Place → Place
place_or None place = place
place_or (Some stood) place = stood.0

abbrev document_or : Before → Option Fields → Option Fields
document_or None document = document
document_or (Some stood) document = stood.1

-- what stood before an entry is put back at its place
put_again : (shelf : Shelf) (entry : Entry) (place : Place) (document : Option Fields) → Some (place, document) ≡ stood_before shelf.documents entry
    → put_at (applied shelf.documents entry) place document ≡ shelf.documents
put_again shelf entry place document stood = by_place (place_of entry.op) refl
  where
    by_place : (at : Option Place) → place_of entry.op ≡ at → put_at (applied shelf.documents entry) place document ≡ shelf.documents
    by_place None is = absurd (cc (stood, ap (stood_at shelf.documents) is))
    by_place (Some own) is =
        let pair : Some (place, document) ≡ Some (own, get shelf.documents own) = stood ∙ ap (stood_at shelf.documents) is in
        let same : place ≡ own = ap (λ (b : Before). place_or b place) pair in
        let what : document ≡ get shelf.documents own = ap (λ (b : Before). document_or b document) pair in
        rw (same, what) (taken_back shelf.documents entry own is)

-- ---- the last entry is taken back

pub same_parts : (a b : Shelf) → a.documents ≡ b.documents → a.before ≡ b.before → a ≡ b
same_parts a b documents before =
    ap (λ (d : Documents). record { documents = d; before = a.before }) documents
    ∙ ap (λ (s : List Before). record { documents = b.documents; before = s }) before

-- what stood at its place is put back
pub stands_again : (old shelf : Shelf) (entry : Entry) (rest : List Before) (last : Before) (place : Place) (document : Option Fields) (documents : Documents)
    → old ≡ with_applied shelf entry → old.before ≡ rest ++ last ∷ [] → last ≡ Some (place, document) → documents ≡ put_at old.documents place document
    → record { documents = documents; before = rest } ≡ shelf
stands_again old shelf entry rest last place document documents made is stood put =
    let parts : (rest ≡ shelf.before) × (last ≡ stood_before shelf.documents entry) = popped old shelf entry rest last made is in
    same_parts (record { documents = documents; before = rest }) shelf
    (put ∙ ap (λ (s : Shelf). put_at s.documents place document) made ∙ put_again shelf entry place document (sym stood ∙ parts.1)) parts.0
