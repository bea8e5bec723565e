-- A name that is read has no zero byte.
use Rattle.std.proofs.Common.{◌≡◌, ℕ, zero, suc, ◌+◌, ◌/◌, ◌%◌, ◌<◌, Bool, true, false, cond, ltb, List, [], ◌∷◌, ◌++◌, ◌==◌, take, Some, refl, arith}
use Rattle.std.specs.Prelude.{Contains, encode_utf8}
use Rattle.std.specs.List.{prefix_len, take_while}
use lib.Utf8.{encode}
use Rattle.doc_text.specs.Bytes.{is_name_byte, is_plain}
use Rattle.doc_text.specs.Strings.{named_character}
use Rattle.doc_text.specs.Spelling.{Letter, itself, named, coded, Means, SpellsLetters}

-- no byte is zero
abbrev pub IsClean : List ℕ → Type 0
IsClean [] = Unit {0}
IsClean (c ∷ rest) = (0 < c) × IsClean rest

pub no_zero : (bytes : List ℕ) → IsClean bytes → ¬ Contains bytes 0
no_zero [] clean found = absurd (omega (arith, found.1))
no_zero (c ∷ rest) clean (zero, within, is) = absurd (omega (arith, clean.0, is))
no_zero (c ∷ rest) clean (suc k, within, is) = no_zero rest clean.1 (k, omega arith, is)

clean_append : (xs ys : List ℕ) → IsClean xs → IsClean ys → IsClean (xs ++ ys)
clean_append [] ys one two = two
clean_append (x ∷ xs) ys one two = (one.0, clean_append xs ys one.1 two)

either : (b : Bool) (xs ys : List ℕ) → IsClean xs → IsClean ys → IsClean (cond b xs ys)
either true xs ys one two = one
either false xs ys one two = two

clean_encode : (code : ℕ) → 0 < code → IsClean (encode_utf8 code)
unfolding encode
clean_encode code some =
    let one : IsClean (code ∷ []) = (some, tt) in
    let two : IsClean ((192 + code / 64) ∷ (128 + code % 64) ∷ []) = (omega arith, (omega arith, tt)) in
    let three : IsClean ((224 + code / 4096) ∷ (128 + code / 64 % 64) ∷ (128 + code % 64) ∷ []) = (omega arith, (omega arith, (omega arith, tt))) in
    let four : IsClean ((240 + code / 262144) ∷ (128 + code / 4096 % 64) ∷ (128 + code / 64 % 64) ∷ (128 + code % 64) ∷ []) = (omega arith, (omega arith, (omega arith, (omega arith, tt)))) in
    either (ltb code 128) _ _ one (either (ltb code 2048) _ _ two (either (ltb code 65536) _ _ three four))

named_some : (letter character : ℕ) → named_character letter ≡ Some character → 0 < character
named_some letter character is = grind arith

not_zero : (n : ℕ) → (n == 0) ≡ false → 0 < n
not_zero n h = grind arith

plain_byte : (c : ℕ) → is_plain c ≡ true → 0 < c
plain_byte c plain = grind arith

letter_clean : (letter : Letter) (bytes : List ℕ) → Means true letter bytes → IsClean bytes
letter_clean (itself byte) bytes means = rw means.1 (plain_byte byte means.0, tt)
letter_clean (named letter) bytes means = rw means.2 (clean_encode means.0 (named_some letter means.0 means.1))
letter_clean (coded a b c d) bytes means = rw means.2 (clean_encode means.0 (not_zero means.0 means.1.no_zero))

-- a string that is a name
pub letters_clean : (letters : List Letter) (bytes s : List ℕ) → SpellsLetters true letters bytes s → IsClean bytes
letters_clean [] bytes s spelled = rw spelled.0 tt
letters_clean (letter ∷ letters) bytes s spelled =
    rw spelled.5 (clean_append spelled.0 spelled.1 (letter_clean letter spelled.0 spelled.3) (letters_clean letters spelled.1 spelled.2 spelled.4))

name_byte : (c : ℕ) → is_name_byte c ≡ true → 0 < c
name_byte c inside = grind arith

clean_run : (b : Bool) (c : ℕ) (rest : List ℕ) (n : ℕ) → is_name_byte c ≡ b → IsClean (take n rest) → IsClean (take (cond b (1 + n) 0) (c ∷ rest))
clean_run true c rest n e clean =
    let one : 1 + n ≡ suc n = omega arith in
    rw one (name_byte c e, clean)
clean_run false c rest n e clean = tt

-- a bare name
pub bare_clean : (text : List ℕ) → IsClean (take_while is_name_byte text)
bare_clean [] = tt
bare_clean (c ∷ rest) = clean_run (is_name_byte c) c rest (prefix_len is_name_byte rest) refl (bare_clean rest)
