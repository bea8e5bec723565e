-- Strings and names are read as they are spelled.
use Rattle.std.proofs.Common.{◌≡◌, ℕ, zero, suc, ◌+◌, ◌*◌, ◌<◌, ◌≤◌, lit<, Bool, true, false, cond, List, [], ◌∷◌, ◌++◌, ◌==◌, ◌&&◌, length, Option, Some, Ok, refl, sym, ap, ◌∙◌, append_assoc, arith, inl, inr}
use Rattle.std.specs.List.{prefix_len, AllByRecursion, list_all}
use Rattle.std.proofs.lemmas.Bool.{cases_eq, and_parts}
use Rattle.std.proofs.lemmas.List.{take_at, drop_at, length-append}
use Rattle.hex.specs.Hex.{hex_digit_value}
use Rattle.doc_text.specs.Bytes.{is_name_byte, is_name_start}
use Rattle.doc_text.specs.Strings.{hex_digit_at, unicode_at, named_character, or_escape, escape_at, letters_at}
use Rattle.doc_text.specs.Names.{bare_at, name_at}
use Rattle.doc_text.specs.Printing.{is_bare}
use Rattle.doc_text.specs.Spelling.{Letter, itself, named, coded, written, IsCode, Means, SpellsLetters, SpellsString, SpellsName}
use Rattle.doc_text.proofs.Letters.{letters_at-plain, letters_at-mark, letters_at-escape}
use Rattle.doc_text.proofs.SpelledMarks.{run_over}

no_code_letter : (letter character : ℕ) → named_character letter ≡ Some character → (letter == 117) ≡ false
no_code_letter letter character is =
    elim (cases_eq letter 117) [
      | inl same ↦ absurd (cc (rw same at is))
      | inr other ↦ grind arith
    ]

named_over : (in_name : Bool) (letter character : ℕ) (rest : List ℕ) → named_character letter ≡ Some character → escape_at in_name (letter ∷ rest) ≡ Ok (character, rest)
unfolding escape_at
named_over in_name letter character rest is =
    rw (no_code_letter letter character is) (ap (λ (o : Option ℕ). or_escape o (letter ∷ rest) rest) is)

digit_over : (c value : ℕ) (rest : List ℕ) → hex_digit_value c ≡ Some value → hex_digit_at (c ∷ rest) ≡ Ok (value, rest)
unfolding hex_digit_at
digit_over c value rest is = ap (λ (o : Option ℕ). or_escape o (c ∷ rest) rest) is

coded_over : (in_name : Bool) (a b c d code : ℕ) (rest : List ℕ) → IsCode in_name a b c d code → escape_at in_name (117 ∷ a ∷ b ∷ c ∷ d ∷ rest) ≡ Ok (code, rest)
unfolding escape_at unicode_at
coded_over in_name a b c d code rest is =
    let zero_is : (in_name && ((is.first * 16 + is.second) * 16 + is.third) * 16 + is.fourth == 0) ≡ false = rw is.value at is.no_zero in
    rw (digit_over a is.first (b ∷ c ∷ d ∷ rest) is.first_digit, digit_over b is.second (c ∷ d ∷ rest) is.second_digit, is.no_surrogate, digit_over c is.third (d ∷ rest) is.third_digit, digit_over d is.fourth rest is.fourth_digit, zero_is) (ap (λ (n : ℕ). Ok (n, rest)) (sym is.value))

-- a letter is read, and then the others
letter_over : (in_name : Bool) (letter : Letter) (one others tail rest : List ℕ) (most : ℕ) → Means in_name letter one → letters_at in_name most (tail ++ rest) ≡ Ok (others, rest)
    → letters_at in_name (suc most) (written letter ++ (tail ++ rest)) ≡ Ok (one ++ others, rest)
letter_over in_name (itself byte) one others tail rest most means later =
    letters_at-plain in_name most byte (tail ++ rest) means.0 ∙ rw (later, means.1) refl
letter_over in_name (named letter) one others tail rest most means later =
    letters_at-escape in_name most (letter ∷ (tail ++ rest)) ∙ rw (named_over in_name letter means.0 (tail ++ rest) means.1, later, means.2) refl
letter_over in_name (coded a b c d) one others tail rest most means later =
    letters_at-escape in_name most (117 ∷ a ∷ b ∷ c ∷ d ∷ (tail ++ rest)) ∙ rw (coded_over in_name a b c d means.0 (tail ++ rest) means.1, later, means.2) refl

written_some : (letter : Letter) → 0 < length (written letter)
written_some (itself byte) = lit< tt
written_some (named letter) = lit< tt
written_some (coded a b c d) = lit< tt

-- more characters may be allowed than are there
pub letters_over : (in_name : Bool) (letters : List Letter) (bytes s rest : List ℕ) (most : ℕ) → SpellsLetters in_name letters bytes s → length (s ++ rest) ≤ most → letters_at in_name most (s ++ rest) ≡ Ok (bytes, rest)
letters_over in_name [] bytes s rest zero spelled within = absurd (omega (arith, length-append s rest, ap length spelled.1))
letters_over in_name [] bytes s rest (suc most) spelled within = rw (spelled.1, spelled.0) (letters_at-mark in_name most rest)
letters_over in_name (letter ∷ letters) bytes s rest zero spelled within =
    absurd (omega (arith, length-append s rest, ap length spelled.6, length-append (written letter) spelled.2, written_some letter))
letters_over in_name (letter ∷ letters) bytes s rest (suc most) spelled within =
    let tail = spelled.2 in
    let regroup : s ++ rest ≡ written letter ++ (tail ++ rest) = ap (λ (x : List ℕ). x ++ rest) spelled.6 ∙ append_assoc (written letter) tail rest in
    let left : length (tail ++ rest) ≤ most = omega (arith, ap length regroup, length-append (written letter) (tail ++ rest), written_some letter) in
    let later = letters_over in_name letters spelled.1 tail rest most spelled.4 left in
    rw (regroup, spelled.5) (letter_over in_name letter spelled.0 spelled.1 tail rest most spelled.3 later)

-- ---- names

names_pass : (name : List ℕ) → list_all is_name_byte name ≡ true → AllByRecursion (λ c. is_name_byte c ≡ true) name
names_pass [] all = tt
names_pass (c ∷ name) all =
    let parts = and_parts (is_name_byte c) (list_all is_name_byte name) all in
    (parts.0, names_pass name parts.1)

-- the second of three branches
second : {A : Type 0} (a b : Bool) (x y z : A) → a ≡ false → b ≡ true → cond a x (cond b y z) ≡ y
second false true x y z p q = refl
second false false x y z p q = absurd cc
second true b x y z p q = absurd cc

bare_over : (name rest : List ℕ) → is_bare name ≡ true → prefix_len is_name_byte rest ≡ 0 → name_at (name ++ rest) ≡ Ok (name, rest)
unfolding name_at
bare_over [] rest bare stop = absurd cc
bare_over (c ∷ name) rest bare stop =
    let parts = and_parts (is_name_start c) (list_all is_name_byte name) bare in
    let inside : is_name_byte c ≡ true = grind (arith, parts.0) in
    let no_mark : (c == 34) ≡ false = grind (arith, parts.0) in
    let len : prefix_len is_name_byte ((c ∷ name) ++ rest) ≡ length (c ∷ name) = run_over is_name_byte (c ∷ name) rest (inside, names_pass name parts.1) stop in
    let read : bare_at ((c ∷ name) ++ rest) ≡ Ok (c ∷ name, rest) = rw (len, take_at (c ∷ name) rest (length (c ∷ name)) refl, drop_at (c ∷ name) rest (length (c ∷ name)) refl) refl in
    second (c == 34) (is_name_start c) _ _ _ no_mark parts.0 ∙ read

quoted_over : (name s rest : List ℕ) → SpellsString true name s → name_at (s ++ rest) ≡ Ok (name, rest)
unfolding name_at
quoted_over name s rest spelled =
    rw spelled.whole (letters_over true spelled.letters name spelled.tail rest (length (spelled.tail ++ rest)) spelled.spelled (omega arith))

pub name_over : (name s rest : List ℕ) → SpellsName name s → prefix_len is_name_byte rest ≡ 0 → name_at (s ++ rest) ≡ Ok (name, rest)
name_over name s rest spelled stop =
    elim spelled as (λ _. name_at (s ++ rest) ≡ Ok (name, rest)) [
      | inl bare ↦ rw bare.1 (bare_over name rest bare.0 stop)
      | inr quoted ↦ quoted_over name s rest quoted
    ]
