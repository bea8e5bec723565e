-- Places that ops touch.
use Rattle.std.proofs.Common.{◌≡◌, ◌≢◌, ◌⊎◌, inl, inr, ◌∙◌, Bool, true, false, Option, None, Some, refl, ap}
use Rattle.std.specs.Cmp.{tied_itself, Equal-is}
use Rattle.std.specs.Ordering.{is_eq}
use Rattle.bson_doc.specs.Place.{Place}
use Rattle.bson_doc.proofs.KeyLemmas.{place_cmp-total, place_cmp-antisymmetric}
use Rattle.oplog_entry.specs.Step.{is_at}

pub is_at-itself : (place : Place) → is_at (Some place) place ≡ true
is_at-itself place = ap is_eq (tied_itself place_cmp-total place)

-- an op that touches a place touches it, and no other
pub is_at-here : (own : Option Place) (place : Place) → own ≡ Some place → is_at own place ≡ true
is_at-here own place same = ap (λ o. is_at o place) same ∙ is_at-itself place

pub is_at-only : (own : Option Place) (place : Place) → is_at own place ≡ true → own ≡ Some place
is_at-only None place here = cc here
is_at-only (Some own) place here = ap (λ (p : Place). Some p) (place_cmp-antisymmetric own place ((Equal-is _).0 here))

pub is_at-other : (own : Option Place) (place : Place) → own ≢ Some place → is_at own place ≡ false
is_at-other own place apart = by_test (is_at own place) refl
  where
    by_test : (b : Bool) → is_at own place ≡ b → is_at own place ≡ false
    by_test true is = absurd (apart (is_at-only own place is))
    by_test false is = is

pub same_place : (one two : Place) → (one ≡ two) ⊎ (one ≢ two)
same_place one two = by_test (is_at (Some one) two) refl
  where
    some_same : Some one ≡ Some two → one ≡ two
    some_same e = cc

    by_test : (b : Bool) → is_at (Some one) two ≡ b → (one ≡ two) ⊎ (one ≢ two)
    by_test true is = inl (some_same (is_at-only (Some one) two is))
    by_test false is = inr (λ same. let also : is_at (Some one) two ≡ true = is_at-here (Some one) two (ap (λ (p : Place). Some p) same) in cc)
