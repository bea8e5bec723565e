-- Names and strings: bytes that are UTF-8, and names up to a zero.
use Rattle.std.proofs.Common.{ℕ, zero, suc, ◌≡◌, ◌<◌, true, false, List, [], ◌∷◌, length, take, drop, get_or, Contains, Some, Ok, Err, refl, sym, ◌∙◌, arith, inl, inr}
use Rattle.std.specs.Prelude.{is_some, position, ◌==◌}
use Rattle.std.specs.Str.{is_utf8, IsUtf8}
use Rattle.std.specs.Str.Lossy.{utf8_valid_len, utf8_error_len}
use Rattle.std.proofs.lemmas.Bool.{cases_Bool}
use Rattle.std.proofs.lemmas.Str.{IsUtf8-from_is_utf8, utf8_valid_len-IsUtf8}
use Rattle.std.proofs.lemmas.List.{drop_all, get_or-take, length-take}
use Rattle.std.proofs.lemmas.List.Quantifiers.{position-Some}
use Rattle.bson_codec.specs.declared.error.DecodeError.TheVariants as rules
use Rattle.bson_codec.specs.Reading.{known_name_at, utf8}

pub not_utf8 : (bs : List ℕ) → ¬ IsUtf8 bs → is_utf8 bs ≡ false
not_utf8 bs never = elim (cases_Bool (is_utf8 bs)) [
  | inl valid ↦ absurd (never (IsUtf8-from_is_utf8 bs valid))
  | inr other ↦ other
]

pub no_break : (bs : List ℕ) → IsUtf8 bs → is_some (utf8_error_len (drop (utf8_valid_len bs) bs)) ≡ false
unfolding utf8_error_len
no_break bs valid = rw (utf8_valid_len-IsUtf8 bs valid, drop_all (length bs) bs (omega arith)) refl

pub utf8-ok : (bs letters : List ℕ) → utf8 bs ≡ Ok letters → (is_utf8 bs ≡ true) × (letters ≡ bs)
utf8-ok bs letters read = elim (cases_Bool (is_utf8 bs)) [
  | inl valid ↦ (valid, cc (rw valid at read))
  | inr other ↦ absurd (cc (rw other at read))
]

-- what stands before the first zero has none
pub clean_front : (bs : List ℕ) (n : ℕ) → position (λ b. b == 0) bs ≡ Some n → ¬ Contains (take n bs) 0
clean_front bs n first = λ (k, within, zero_there).
    let known = position-Some (λ (b : ℕ). b == 0) bs n 0 first in
    let below : k < n = omega (arith, length-take n bs) in
    let apart = known.2 k below in
    let there : get_or bs k 0 ≡ 0 = sym (get_or-take n bs k 0 below) ∙ zero_there in
    cc (rw there at apart)

pub known_cut : (name : List ℕ) (i : ℕ) → i < length name → known_name_at (drop i name) [] ≡ Err rules.Length
unfolding known_name_at
known_cut [] i within = absurd (omega arith)
known_cut (b ∷ name) zero within = refl
known_cut (b ∷ name) (suc i) within = known_cut name i (omega arith)
