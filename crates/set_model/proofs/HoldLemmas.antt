-- Places that ops touch, and who holds a document.
use Rattle.std.proofs.Common.{◌≡◌, ◌≢◌, ◌∙◌, ℕ, Bool, true, false, cond, List, [], ◌∷◌, Option, None, Some, refl, sym, ap}
use Rattle.std.specs.Cmp.{eq_by_cmp_equiv}
use Rattle.std.specs.FinMap.{find, get, get-entries, entries, FinMap}
use Rattle.std.specs.Ordering.{eq_by_cmp, nat_cmp}
use Rattle.bson_doc.specs.Place.{Place}
use Rattle.bson_doc.proofs.KeyLemmas.{place_cmp-total}
use Rattle.rs_optime.specs.declared.optime.OpTime.{OpTime}
use Rattle.oplog_entry.specs.Docs.{Documents, applied}
use Rattle.oplog_entry.specs.Step.{place_of, document_after, is_at}
use Rattle.oplog_entry.specs.declared.entry.Entry.{Entry}
use Rattle.oplog_entry.specs.declared.entry.Op.{Op}
use Rattle.oplog_entry.proofs.DocsLemmas.{get-applied, applied-nothing}
use Rattle.oplog_entry.proofs.PlaceLemmas.{is_at-here, is_at-only}
use Rattle.set_model.specs.declared.writer.Writer.{Writer}
use Rattle.set_model.specs.declared.writer.Writer.TheVariants.{Open}
use Rattle.set_model.specs.Holds.{holds, holder_among}

-- ---- places

some_place : (one two : Place) → Some one ≡ Some two → one ≡ two
some_place one two same = cc same

-- what stands at a place after one entry
pub get-step : (documents : Documents) (entry : Entry) (place : Place)
    → get (applied documents entry) place ≡ cond (is_at (place_of entry.op) place) (document_after entry.op (get documents place)) (get documents place)
get-step documents entry place = by_place (place_of entry.op) refl
  where
    by_place : (own : Option Place) → place_of entry.op ≡ own → get (applied documents entry) place ≡ cond (is_at own place) (document_after entry.op (get documents place)) (get documents place)
    by_place None is = ap (λ d. get d place) (applied-nothing documents entry is)
    by_place (Some own) is =
        get-applied documents entry own place is
        ∙ ap (λ b. cond b (document_after entry.op (get documents own)) (get documents place)) ((eq_by_cmp_equiv place_cmp-total).symm place own)
        ∙ by_test (is_at (Some own) place) refl
      where
        by_test : (b : Bool) → is_at (Some own) place ≡ b → cond b (document_after entry.op (get documents own)) (get documents place) ≡ cond b (document_after entry.op (get documents place)) (get documents place)
        by_test true here = ap (λ p. document_after entry.op (get documents p)) (some_place own place (is_at-only (Some own) place here))
        by_test false other = refl

-- ---- holders

none_among : (es : List (ℕ × Writer)) (place : Place) (number : ℕ) (writer : Writer) → holder_among es place ≡ None → find nat_cmp number es ≡ Some writer → holds writer place ≡ false
none_among [] place number writer none there = cc there
none_among (e ∷ es) place number writer none there = by_holder (holds e.1 place) refl none (λ free found. none_among es place number writer free found)
  where
    same_writer : (one two : Writer) → Some one ≡ Some two → one ≡ two
    same_writer one two same = cc same

    by_number : (b : Bool) → cond b (Some e.1) (find nat_cmp number es) ≡ Some writer → holds e.1 place ≡ false → (find nat_cmp number es ≡ Some writer → holds writer place ≡ false) → holds writer place ≡ false
    by_number true found free again = ap (λ w. holds w place) (sym (same_writer e.1 writer found)) ∙ free
    by_number false found free again = again found

    by_holder : (b : Bool) → holds e.1 place ≡ b → cond b (Some e.0) (holder_among es place) ≡ None
        → (holder_among es place ≡ None → find nat_cmp number es ≡ Some writer → holds writer place ≡ false) → holds writer place ≡ false
    by_holder true is none again = cc none
    by_holder false is none again = by_number (eq_by_cmp nat_cmp number e.0) there is (again none)

-- where nobody holds a document, no open writer's op touches it
pub held_by_none : (writers : FinMap nat_cmp Writer) (place : Place) → holder_among (entries writers) place ≡ None
    → (number : ℕ) (at : OpTime) (op : Op) → get writers number ≡ Some (Open at op) → place_of op ≢ Some place
held_by_none writers place none number at op is_open touches =
    not_both (holds (Open at op) place) (is_at-here (place_of op) place touches)
    (none_among (entries writers) place number (Open at op) none (sym (get-entries writers number) ∙ is_open))
  where
    not_both : (b : Bool) → b ≡ true → b ≡ false → ⊥
    not_both b one two = cc (one, two)
