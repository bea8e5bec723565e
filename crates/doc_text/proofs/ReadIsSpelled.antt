-- The text read is a spelling of the result: marks, numbers and texts.
use Rattle.std.proofs.Common.{◌≡◌, ℕ, ℤ, suc, ◌+◌, ◌%◌, ◌^◌, ◌<◌, ◌≤◌, min, Bool, true, false, cond, List, [], ◌∷◌, ◌++◌, ◌==◌, ◌&&◌, ◌||◌, length, take, drop, Result, Ok, Err, refl, sym, ap, ◌∙◌, append_assoc, arith, inl, inr}
use Rattle.std.specs.Prelude.{codes}
use Rattle.std.specs.List.{prefix_len}
use Rattle.std.specs.Char.{is_ascii_digit}
use Rattle.std.specs.Str.Parse.{IsNumeral, digits_value, signed_digits_value}
use Rattle.std.proofs.lemmas.Bool.{and_parts}
use Rattle.std.proofs.lemmas.List.{take-append-drop, length-take}
use Rattle.std.proofs.lemmas.List.Sums.{prefix_len-le-length}
use Rattle.bson_doc.specs.Length.{value_levels}
use Rattle.bson_doc.specs.Bind.{◌>>=◌}
use Rattle.hex.specs.Hex.{is_hex_digit, decode_of}
use Rattle.hex.proofs.HexLemmas.{decode_of-digits, decode_of-ok}
use Rattle.bson_doc.specs.Tree.{Tree, int32, int64}
use Rattle.doc_text.specs.declared.fault.Fault.{Fault}
use Rattle.doc_text.specs.declared.fault.Rule.TheVariants.{Unexpected, Number}
use Rattle.doc_text.specs.Bytes.{is_space}
use Rattle.doc_text.specs.Class.{after_spaces}
use Rattle.doc_text.specs.Fault.{fails}
use Rattle.doc_text.specs.Marks.{mark_at, spaced_at, closing_at, word_at, opened_at}
use Rattle.doc_text.specs.Integers.{fits, ranged, digits_at, integer_at, natural_at, long_at, kind_at, number_at}
use Rattle.doc_text.specs.HexText.{bytes_of, closed_at, hex_fault, binary_hex_at, id_hex_at}
use Rattle.doc_text.specs.Spelling.{IsSpaces, IsSpaced, IsClosing, SpellsInteger, SpellsNatural, Spells, EndsThere}
use Rattle.doc_text.proofs.Numerals.{run_of_digits}
use Rattle.std.proofs.Common.{nat_le}
use Rattle.std.specs.List.{AllPass}
use Rattle.doc_text.proofs.HexTexts.{run_of_hex_digits, some_digits, decoded}
use Rattle.doc_text.proofs.SpelledMarks.{first_stops}
use Rattle.doc_text.proofs.SpelledNumbers.{unsigned_value}
use Rattle.bson_doc.proofs.BindLemmas.{Gets, bind_gets, gets_more, cond_gets}

-- ---- marks

pub same : (c mark : ℕ) → (c == mark) ≡ true → c ≡ mark
same c mark h = grind arith

pub mark_gets : (mark : ℕ) (text : List ℕ) → Gets (mark_at mark text) (λ rest. text ≡ mark ∷ rest)
unfolding mark_at
mark_gets mark [] = tt
mark_gets mark (c ∷ rest) = cond_gets (c == mark) (Ok rest) (fails Unexpected (c ∷ rest)) (λ r. c ∷ rest ≡ mark ∷ r) (λ is. ap (λ (x : ℕ). x ∷ rest) (same c mark is)) (λ _. tt)

one_space : (b : Bool) (c : ℕ) (rest : List ℕ) → is_space c ≡ b → (s : List ℕ) × IsSpaces s × (rest ≡ s ++ after_spaces rest)
    → (s : List ℕ) × IsSpaces s × (c ∷ rest ≡ s ++ drop (cond b (1 + prefix_len is_space rest) 0) (c ∷ rest))
one_space true c rest space from =
    let one : 1 + prefix_len is_space rest ≡ suc (prefix_len is_space rest) = omega arith in
    rw one (c ∷ from.0, (same c 32 space, from.1), ap (λ (x : List ℕ). c ∷ x) from.2)
one_space false c rest other from = ([], tt, refl)

-- spaces, and what follows them
pub spaces_front : (text : List ℕ) → (s : List ℕ) × IsSpaces s × (text ≡ s ++ after_spaces text)
spaces_front [] = ([], tt, refl)
spaces_front (c ∷ rest) = one_space (is_space c) c rest refl (spaces_front rest)

-- a fact of what follows
abbrev pub After : (List ℕ → Type 0) → List ℕ → List ℕ → Type 0
After P text rest = (s : List ℕ) × P s × (text ≡ s ++ rest)

pub spaced_gets : (mark : ℕ) (text : List ℕ) → Gets (spaced_at mark text) (After (IsSpaced mark) text)
unfolding spaced_at
spaced_gets mark text =
    bind_gets (mark_at mark (after_spaces text)) (λ rest. Ok (after_spaces rest)) (λ rest. after_spaces text ≡ mark ∷ rest) (After (IsSpaced mark) text) (mark_gets mark (after_spaces text)) (λ rest is.
    let before = spaces_front text in
    let after = spaces_front rest in (
      before.0 ++ mark ∷ after.0,
      record { before = before.0; after = after.0; spaces_before = before.1; spaces_after = after.1; whole = refl },
      before.2 ∙ ap (λ (x : List ℕ). before.0 ++ x) (is ∙ ap (λ (x : List ℕ). mark ∷ x) after.2) ∙ sym (append_assoc before.0 (mark ∷ after.0) (after_spaces rest)),
    ))

pub closing_gets : (mark : ℕ) (text : List ℕ) → Gets (closing_at mark text) (After (IsClosing mark) text)
unfolding closing_at
closing_gets mark text = go (mark_at mark (after_spaces text)) (mark_gets mark (after_spaces text))
  where
    go : (r : Result (List ℕ) Fault) → Gets r (λ rest. after_spaces text ≡ mark ∷ rest) → Gets r (After (IsClosing mark) text)
    go (Err e) got = tt
    go (Ok rest) got =
        let before = spaces_front text in (
          before.0 ++ mark ∷ [],
          record { before = before.0; spaces_before = before.1; whole = refl },
          before.2 ∙ ap (λ (x : List ℕ). before.0 ++ x) got ∙ sym (append_assoc before.0 (mark ∷ []) rest),
        )

pub word_gets : (word text : List ℕ) → Gets (word_at word text) (λ rest. text ≡ word ++ rest)
unfolding word_at
word_gets [] text = refl
word_gets (c ∷ word) text =
    bind_gets (mark_at c text) (λ rest. word_at word rest) (λ rest. text ≡ c ∷ rest) (λ rest. text ≡ c ∷ (word ++ rest)) (mark_gets c text) (λ rest is.
    go (word_at word rest) rest is (word_gets word rest))
  where
    go : (r : Result (List ℕ) Fault) (rest : List ℕ) → text ≡ c ∷ rest → Gets r (λ after. rest ≡ word ++ after) → Gets r (λ after. text ≡ c ∷ (word ++ after))
    go (Err e) rest is got = tt
    go (Ok after) rest is got = is ∙ ap (λ (x : List ℕ). c ∷ x) got

-- what follows a word and an opening parenthesis
abbrev pub Opening : List ℕ → List ℕ → List ℕ → Type 0
Opening word text rest = (s : List ℕ) × IsSpaced 40 s × (text ≡ word ++ (s ++ rest))

pub opened_gets : (word text : List ℕ) → Gets (opened_at word text) (Opening word text)
unfolding opened_at
opened_gets word text =
    bind_gets (word_at word text) (λ name. spaced_at 40 name) (λ rest. text ≡ word ++ rest) (Opening word text) (word_gets word text) (λ name a.
    gets_more (spaced_at 40 name) (After (IsSpaced 40) name) (Opening word text) (spaced_gets 40 name) (λ rest b. (b.0, b.1, a ∙ ap (λ (x : List ℕ). word ++ x) b.2)))

-- ---- numbers

-- digits, and what goes on without one
abbrev pub IsRead : (List ℕ → Type 0) → List ℕ → List ℕ × List ℕ → Type 0
IsRead P text x = P x.0 × (text ≡ x.0 ++ x.1) × (prefix_len is_ascii_digit x.1 ≡ 0)

one_stop : (b : Bool) (p : ℕ → Bool) (c : ℕ) (rest : List ℕ) → p c ≡ b → prefix_len p (drop (prefix_len p rest) rest) ≡ 0 → prefix_len p (drop (cond b (1 + prefix_len p rest) 0) (c ∷ rest)) ≡ 0
one_stop true p c rest inside later =
    let one : 1 + prefix_len p rest ≡ suc (prefix_len p rest) = omega arith in
    rw one later
one_stop false p c rest outside later = rw outside refl

pub stops : (p : ℕ → Bool) (text : List ℕ) → prefix_len p (drop (prefix_len p text) text) ≡ 0
stops p [] = refl
stops p (c ∷ rest) = one_stop (p c) p c rest refl (stops p rest)

pub digits_gets : (text : List ℕ) → Gets (digits_at text) (IsRead (IsNumeral 10) text)
unfolding digits_at
digits_gets text =
    let len = prefix_len is_ascii_digit text in
    cond_gets (prefix_len is_ascii_digit text == 0) (fails Unexpected text) (Ok (take (prefix_len is_ascii_digit text) text, drop (prefix_len is_ascii_digit text) text)) (IsRead (IsNumeral 10) text) (λ _. tt) (λ some.
    let positive : 0 < prefix_len is_ascii_digit text = grind arith in
    ((omega (arith, positive, length-take (prefix_len is_ascii_digit text) text, prefix_len-le-length is_ascii_digit text), run_of_digits text), sym (take-append-drop (prefix_len is_ascii_digit text) text), stops is_ascii_digit text))

abbrev pub IntegerRead : List ℕ → List ℕ × List ℕ → Type 0
IntegerRead text x = SpellsInteger (signed_digits_value 10 x.0) x.0 × (text ≡ x.0 ++ x.1) × (prefix_len is_ascii_digit x.1 ≡ 0)

pub integer_gets : (text : List ℕ) → Gets (integer_at text) (IntegerRead text)
unfolding integer_at
integer_gets [] = tt
integer_gets (c ∷ rest) =
    cond_gets (c == 45) (digits_at rest >>= λ digits. Ok (45 ∷ digits.0, digits.1)) (digits_at (c ∷ rest)) (IntegerRead (c ∷ rest))
    (λ minus. bind_gets (digits_at rest) (λ digits. Ok (45 ∷ digits.0, digits.1)) (IsRead (IsNumeral 10) rest) (IntegerRead (c ∷ rest)) (digits_gets rest) (λ digits got.
    ((digits.0, got.0, inr (refl, refl)), rw (same c 45 minus) (ap (λ (x : List ℕ). 45 ∷ x) got.1), got.2)))
    (λ plain. gets_more (digits_at (c ∷ rest)) (IsRead (IsNumeral 10) (c ∷ rest)) (IntegerRead (c ∷ rest)) (digits_gets (c ∷ rest)) (λ x got.
    ((x.0, got.0, inl (refl, unsigned_value x.0 got.0)), got.1, got.2)))

at_most : (n most : ℕ) → nat_le n most ≡ true → n ≤ most
at_most n most small = grind arith

pub natural_gets : (most : ℕ) (text : List ℕ) → Gets (natural_at most text) (λ x. After (SpellsNatural most x.0) text x.1)
unfolding natural_at
natural_gets most text =
    bind_gets (digits_at text) (λ digits. cond (nat_le (digits_value 10 digits.0) most) (Ok (digits_value 10 digits.0, digits.1)) (fails Number text)) (IsRead (IsNumeral 10) text) (λ x. After (SpellsNatural most x.0) text x.1) (digits_gets text) (λ digits got.
    cond_gets (nat_le (digits_value 10 digits.0) most) (Ok (digits_value 10 digits.0, digits.1)) (fails Number text) (λ x. After (SpellsNatural most x.0) text x.1) (λ small. (digits.0, (got.0, refl, at_most (digits_value 10 digits.0) most small), got.1)) (λ _. tt))

-- a number in its range
abbrev Ranged : ℕ → ℤ → List ℕ → ℤ × List ℕ → Type 0
Ranged limit z rest x = (x.0 ≡ z) × (x.1 ≡ rest) × (fits limit z ≡ true)

ranged_gets : (limit : ℕ) (text numeral rest : List ℕ) → Gets (ranged limit text numeral rest) (Ranged limit (signed_digits_value 10 numeral) rest)
ranged_gets limit text numeral rest =
    cond_gets (fits limit (signed_digits_value 10 numeral)) (Ok (signed_digits_value 10 numeral, rest)) (fails Number text) (Ranged limit (signed_digits_value 10 numeral) rest) (λ range. (refl, refl, range)) (λ _. tt)

pub long_gets : (text : List ℕ) → Gets (long_at text) (λ x. After (λ s. SpellsInteger x.0 s × (fits (2 ^ 63) x.0 ≡ true)) text x.1)
unfolding long_at
long_gets text =
    bind_gets (integer_at text) (λ numeral. ranged (2 ^ 63) text numeral.0 numeral.1) (IntegerRead text) (λ x. After (λ s. SpellsInteger x.0 s × (fits (2 ^ 63) x.0 ≡ true)) text x.1) (integer_gets text) (λ numeral got.
    gets_more (ranged (2 ^ 63) text numeral.0 numeral.1) (Ranged (2 ^ 63) (signed_digits_value 10 numeral.0) numeral.1) (λ x. After (λ s. SpellsInteger x.0 s × (fits (2 ^ 63) x.0 ≡ true)) text x.1) (ranged_gets (2 ^ 63) text numeral.0 numeral.1) (λ x range.
    (numeral.0, rw range.0 (got.0, range.2), rw range.1 got.1)))

-- what is read of a text stands at its front as far as it goes
abbrev pub StandsAs : ℕ → List ℕ → Tree × List ℕ → Type 0
StandsAs most input x = (s : List ℕ) × Spells x.0 s × (input ≡ s ++ x.1) × EndsThere x.0 x.1 × (value_levels x.0 ≤ most)

kind_gets : (most : ℕ) (input numeral rest : List ℕ) → IntegerRead input (numeral, rest) → Gets (kind_at input numeral rest) (StandsAs most input)
kind_gets most input numeral [] got =
    bind_gets (ranged (2 ^ 31) input numeral []) (λ n. Ok (int32 n.0, n.1)) (Ranged (2 ^ 31) (signed_digits_value 10 numeral) []) (StandsAs most input) (ranged_gets (2 ^ 31) input numeral []) (λ n range.
    rw (range.0, range.1) (numeral, (got.0, range.2), got.1, refl, omega arith))
kind_gets most input numeral (c ∷ rest) got =
    cond_gets (c == 76) (ranged (2 ^ 63) input numeral rest >>= λ n. Ok (int64 n.0, n.1)) (ranged (2 ^ 31) input numeral (c ∷ rest) >>= λ n. Ok (int32 n.0, n.1)) (StandsAs most input)
    (λ letter. bind_gets (ranged (2 ^ 63) input numeral rest) (λ n. Ok (int64 n.0, n.1)) (Ranged (2 ^ 63) (signed_digits_value 10 numeral) rest) (StandsAs most input) (ranged_gets (2 ^ 63) input numeral rest) (λ n range.
    let whole : input ≡ (numeral ++ codes "L") ++ rest = got.1 ∙ ap (λ (x : ℕ). numeral ++ x ∷ rest) (same c 76 letter) ∙ sym (append_assoc numeral (codes "L") rest) in
    rw (range.0, range.1) (numeral ++ codes "L", (numeral, got.0, range.2, refl), whole, tt, omega arith)))
    (λ other. bind_gets (ranged (2 ^ 31) input numeral (c ∷ rest)) (λ n. Ok (int32 n.0, n.1)) (Ranged (2 ^ 31) (signed_digits_value 10 numeral) (c ∷ rest)) (StandsAs most input) (ranged_gets (2 ^ 31) input numeral (c ∷ rest)) (λ n range.
    let no_digit : is_ascii_digit c ≡ false = first_stops (is_ascii_digit c) (prefix_len is_ascii_digit rest) got.2 in
    let stop : (is_ascii_digit c || c == 76) ≡ false = rw (no_digit, other) refl in
    rw (range.0, range.1) (numeral, (got.0, range.2), got.1, stop, omega arith)))

pub number_gets : (most : ℕ) (input : List ℕ) → Gets (number_at input) (StandsAs most input)
unfolding number_at
number_gets most input =
    bind_gets (integer_at input) (λ numeral. kind_at input numeral.0 numeral.1) (IntegerRead input) (StandsAs most input) (integer_gets input) (λ numeral got. kind_gets most input numeral.0 numeral.1 got)

-- ---- hexadecimal digits

abbrev pub HexRead : List ℕ → List ℕ × List ℕ → Type 0
HexRead input x = (digits : List ℕ) × (decode_of digits ≡ Ok x.0) × (input ≡ digits ++ 34 ∷ x.1)

closed_gets : (right : Bool) (input digits stop : List ℕ) → input ≡ digits ++ stop → (right ≡ true → decode_of digits ≡ Ok (bytes_of digits)) → Gets (closed_at right digits stop) (λ x. HexRead input x × (right ≡ true) × (x.0 ≡ bytes_of digits))
closed_gets right input digits [] whole read = tt
closed_gets right input digits (c ∷ rest) whole read =
    cond_gets (c == 34 && right) (Ok (bytes_of digits, rest)) (Err (hex_fault (c ∷ rest))) (λ x. HexRead input x × (right ≡ true) × (x.0 ≡ bytes_of digits)) (λ both.
    let parts = and_parts (c == 34) right both in
    ((digits, read parts.1, whole ∙ ap (λ (x : ℕ). digits ++ x ∷ rest) (same c 34 parts.0)), parts.1, refl)) (λ _. tt)

read_digits : (digits : List ℕ) → length digits % 2 ≡ 0 → AllPass is_hex_digit digits → decode_of digits ≡ Ok (bytes_of digits)
read_digits digits even all =
    let read = decode_of-digits digits even all in
    read.1 ∙ ap (λ (b : List ℕ). Ok b) (sym (decoded digits read.0 read.1).1)

pub binary_hex_gets : (input : List ℕ) → Gets (binary_hex_at input) (HexRead input)
unfolding binary_hex_at
binary_hex_gets input =
    let len = prefix_len is_hex_digit input in
    gets_more (closed_at (prefix_len is_hex_digit input % 2 == 0) (take (prefix_len is_hex_digit input) input) (drop (prefix_len is_hex_digit input) input)) (λ x. HexRead input x × ((prefix_len is_hex_digit input % 2 == 0) ≡ true) × (x.0 ≡ bytes_of (take (prefix_len is_hex_digit input) input))) (HexRead input)
    (closed_gets (prefix_len is_hex_digit input % 2 == 0) input (take (prefix_len is_hex_digit input) input) (drop (prefix_len is_hex_digit input) input) (sym (take-append-drop (prefix_len is_hex_digit input) input)) (λ even.
    let long = prefix_len-le-length is_hex_digit input in
    let same_len : length (take (prefix_len is_hex_digit input) input) ≡ prefix_len is_hex_digit input = omega (arith, length-take (prefix_len is_hex_digit input) input, long) in
    let zero_rest : prefix_len is_hex_digit input % 2 ≡ 0 = same (prefix_len is_hex_digit input % 2) 0 even in
    read_digits (take (prefix_len is_hex_digit input) input) (rw same_len zero_rest) (run_of_hex_digits input)))
    (λ x got. got.0)

even_len : (n len : ℕ) → len ≡ n → n ≡ 24 → len % 2 ≡ 0
even_len n len is enough = rw (is, enough) refl

pub id_hex_gets : (input : List ℕ) → Gets (id_hex_at input) (λ x. HexRead input x × (length x.0 ≡ 12))
unfolding id_hex_at
id_hex_gets input =
    let long = prefix_len-le-length is_hex_digit input in
    let len : length (take (min (prefix_len is_hex_digit input) 24) input) ≡ min (prefix_len is_hex_digit input) 24 = omega (arith, length-take (min (prefix_len is_hex_digit input) 24) input, long) in
    let all = some_digits input (min (prefix_len is_hex_digit input) 24) (omega arith) in
    gets_more (closed_at (min (prefix_len is_hex_digit input) 24 == 24) (take (min (prefix_len is_hex_digit input) 24) input) (drop (min (prefix_len is_hex_digit input) 24) input)) (λ x. HexRead input x × ((min (prefix_len is_hex_digit input) 24 == 24) ≡ true) × (x.0 ≡ bytes_of (take (min (prefix_len is_hex_digit input) 24) input))) (λ x. HexRead input x × (length x.0 ≡ 12))
    (closed_gets (min (prefix_len is_hex_digit input) 24 == 24) input (take (min (prefix_len is_hex_digit input) 24) input) (drop (min (prefix_len is_hex_digit input) 24) input) (sym (take-append-drop (min (prefix_len is_hex_digit input) 24) input)) (λ enough.
    read_digits (take (min (prefix_len is_hex_digit input) 24) input) (even_len (min (prefix_len is_hex_digit input) 24) _ len (same (min (prefix_len is_hex_digit input) 24) 24 enough)) all))
    (λ x got.
    let digits = take (min (prefix_len is_hex_digit input) 24) input in
    let enough = same (min (prefix_len is_hex_digit input) 24) 24 got.1 in
    let read = read_digits (take (min (prefix_len is_hex_digit input) 24) input) (even_len (min (prefix_len is_hex_digit input) 24) _ len enough) all in
    let parts = (decode_of-ok (take (min (prefix_len is_hex_digit input) 24) input) (bytes_of (take (min (prefix_len is_hex_digit input) 24) input)) read).2 in
    (got.0, rw got.2 (omega (arith, parts, len, enough))))
