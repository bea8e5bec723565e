-- The text that is printed for a value spells it.
use Rattle.std.proofs.Common.{◌≡◌, ◌≢◌, ℕ, ℤ, suc, ◌+◌, ◌/◌, ◌%◌, ◌^◌, ◌<◌, ◌≤◌, lit<, Bool, true, false, cond, List, [], ◌∷◌, ◌++◌, ◌==◌, ◌&&◌, length, drop, Some, refl, sym, ap, subst, ◌∙◌, append_assoc, arith, inl, inr, pos, neg_ℤ, nat_lt}
use Rattle.std.specs.Prelude.{codes, negsuc, Contains, slice_index}
use Rattle.std.specs.List.{flat_map}
use Rattle.std.specs.Fmt.{decimal, signed_decimal}
use Rattle.std.proofs.lemmas.Bool.{cases_eq}
use Rattle.std.proofs.lemmas.List.{drop_at, length-append}
use Rattle.std.proofs.lemmas.Fmt.{decimal_is_IsNumeral}
use Rattle.std.proofs.lemmas.Str.{encode_ascii}
use Rattle.hex.specs.Hex.{IsBytes, encode_with, encode_lower, lower_digits}
use Rattle.hex.proofs.HexLemmas.{decode_of-encode_lower, IsDigits-lower_digits}
use Rattle.bson_doc.specs.Tree.{Tree, null, int32, int64, text, document, array, binary, object_id, boolean, date, timestamp, Fields, no_fields, field, Trees, no_items, item, IsDocument}
use Rattle.doc_text.specs.Bytes.{is_plain}
use Rattle.doc_text.specs.Integers.{fits}
use Rattle.doc_text.specs.Strings.{named_character}
use Rattle.doc_text.specs.Printing.{printed_byte, quoted, is_bare, printed_name, printed, printed_fields, later_fields, printed_items, later_items}
use Rattle.doc_text.specs.Spelling.{IsSpaced, IsClosing, Letter, itself, named, coded, written, IsCode, Means, SpellsLetters, SpellsString, SpellsName, SpellsInteger, SpellsNatural, SpellsHex, SpellsField, Spells, SpellsFields, SpellsItems, SpellsLaterFields, SpellsLaterItems, IsLawful, AreLawful, AreAllLawful, Stands}
use Rattle.doc_text.specs.Again.{IsReadAgain}
use Rattle.doc_text.proofs.SpelledIsRead.{stands_answer}
use Rattle.doc_text.proofs.Cuts.{escaped_is_ascii}
use Rattle.doc_text.proofs.Quoting.{plain_printed, code_printed}

-- ---- one byte of a string

-- a byte is printed as one written character, which means it
abbrev IsPrinted : Bool → ℕ → Letter → Type 0
IsPrinted in_name c letter = (printed_byte c ≡ written letter) × Means in_name letter (c ∷ [])

by_letter : (in_name : Bool) (letter character : ℕ) → character < 128 → named_character letter ≡ Some character → printed_byte character ≡ 92 ∷ letter ∷ [] → IsPrinted in_name character (named letter)
by_letter in_name letter character small is same = (same, (character, is, sym (encode_ascii character small)))

by_code : (in_name : Bool) (c : ℕ) → is_plain c ≡ false → (in_name ≡ true → 0 < c) → printed_byte c ≡ codes "\\u00" ++ encode_lower (c ∷ [])
    → IsPrinted in_name c (coded 48 48 (slice_index lower_digits (c / 16)) (slice_index lower_digits (c % 16)))
unfolding encode_with
by_code in_name c special clean same =
    let small = escaped_is_ascii c special in
    let code : IsCode in_name 48 48 (slice_index lower_digits (c / 16)) (slice_index lower_digits (c % 16)) c = record {
      first = 0;
      second = 0;
      third = c / 16;
      fourth = c % 16;
      first_digit = refl;
      second_digit = refl;
      third_digit = IsDigits-lower_digits (c / 16) (omega arith);
      fourth_digit = IsDigits-lower_digits (c % 16) (omega arith);
      value = omega arith;
      no_surrogate = refl;
      no_zero = not_zero in_name c clean;
    } in
    (same, (c, code, sym (encode_ascii c small)))
  where
    not_zero : (b : Bool) (n : ℕ) → (b ≡ true → 0 < n) → (b && n == 0) ≡ false
    not_zero true n some = let positive = some refl in grind arith
    not_zero false n some = refl

at_byte : (in_name : Bool) (c k : ℕ) (letter : Letter) → c ≡ k → IsPrinted in_name k letter → IsPrinted in_name c letter
at_byte in_name c k letter same is = subst (λ (n : ℕ). IsPrinted in_name n letter) (sym same) is

letter_of : (in_name : Bool) (c : ℕ) → (in_name ≡ true → 0 < c) → (letter : Letter) × IsPrinted in_name c letter
letter_of in_name c clean =
    elim (cases_eq c 34) [
      | inl mark ↦ (named 34, at_byte in_name c 34 (named 34) mark (by_letter in_name 34 34 (lit< tt) refl refl))
      | inr no_mark ↦
          elim (cases_eq c 92) [
            | inl backslash ↦ (named 92, at_byte in_name c 92 (named 92) backslash (by_letter in_name 92 92 (lit< tt) refl refl))
            | inr no_backslash ↦
                elim (cases_eq c 10) [
                  | inl line ↦ (named 110, at_byte in_name c 10 (named 110) line (by_letter in_name 110 10 (lit< tt) refl refl))
                  | inr no_line ↦
                      elim (cases_eq c 13) [
                        | inl carriage ↦ (named 114, at_byte in_name c 13 (named 114) carriage (by_letter in_name 114 13 (lit< tt) refl refl))
                        | inr no_carriage ↦
                            elim (cases_eq c 9) [
                              | inl tab ↦ (named 116, at_byte in_name c 9 (named 116) tab (by_letter in_name 116 9 (lit< tt) refl refl))
                              | inr no_tab ↦ plain_or_code (is_plain c) refl no_mark no_backslash no_line no_carriage no_tab
                            ]
                      ]
                ]
          ]
    ]
  where
    plain_or_code : (b : Bool) → is_plain c ≡ b → c ≢ 34 → c ≢ 92 → c ≢ 10 → c ≢ 13 → c ≢ 9 → (letter : Letter) × IsPrinted in_name c letter
    plain_or_code true plain p q r s t = (itself c, (plain_printed c plain, (plain, refl)))
    plain_or_code false special p q r s t = (coded 48 48 (slice_index lower_digits (c / 16)) (slice_index lower_digits (c % 16)), by_code in_name c special clean (code_printed c special p q r s t))

-- ---- strings and names

abbrev AllSome : List ℕ → Type 0
AllSome [] = Unit {0}
AllSome (c ∷ rest) = (0 < c) × AllSome rest

letters_spelled : (in_name : Bool) (bytes : List ℕ) → (in_name ≡ true → AllSome bytes) → (letters : List Letter) × SpellsLetters in_name letters bytes (flat_map printed_byte bytes ++ 34 ∷ [])
letters_spelled in_name [] clean = ([], (refl, refl))
letters_spelled in_name (c ∷ bytes) clean =
    let one = letter_of in_name c (λ b. (clean b).0) in
    let others = letters_spelled in_name bytes (λ b. (clean b).1) in
    let tail = flat_map printed_byte bytes ++ 34 ∷ [] in
    (one.0 ∷ others.0, (c ∷ [], bytes, tail, one.1.1, others.1, refl, append_assoc (printed_byte c) (flat_map printed_byte bytes) (34 ∷ []) ∙ ap (λ (x : List ℕ). x ++ tail) one.1.0))

string_spelled : (in_name : Bool) (bytes : List ℕ) → (in_name ≡ true → AllSome bytes) → SpellsString in_name bytes (quoted bytes)
string_spelled in_name bytes clean =
    let spelled = letters_spelled in_name bytes clean in
    record { letters = spelled.0; tail = flat_map printed_byte bytes ++ 34 ∷ []; spelled = spelled.1; whole = refl }

all_some : (name : List ℕ) → ¬ Contains name 0 → AllSome name
all_some [] clean = tt
all_some (c ∷ name) clean = (first_some c (λ zero_is. clean (0, omega arith, zero_is)), all_some name (λ found. clean (suc found.0, omega arith, found.2)))
  where
    first_some : (n : ℕ) → (n ≡ 0 → ⊥) → 0 < n
    first_some n other = omega arith

name_spelled : (name : List ℕ) → ¬ Contains name 0 → SpellsName name (printed_name name)
name_spelled name clean = by_case (is_bare name) refl
  where
    by_case : (b : Bool) → is_bare name ≡ b → SpellsName name (cond b name (quoted name))
    by_case true bare = inl (bare, refl)
    by_case false other = inr (string_spelled true name (λ _. all_some name clean))

-- ---- numbers

natural_spelled : (most n : ℕ) → n ≤ most → n < 2 ^ 64 → SpellsNatural most n (decimal n)
natural_spelled most n within small =
    let parts = decimal_is_IsNumeral n small in
    (parts.0, sym parts.1, within)

fits_small : (limit : ℕ) (n : ℕ) → limit ≤ 2 ^ 63 → nat_lt n limit ≡ true → n + 1 < 2 ^ 64
fits_small limit n low fit = grind arith

integer_spelled : (limit : ℕ) (z : ℤ) → limit ≤ 2 ^ 63 → fits limit z ≡ true → SpellsInteger z (signed_decimal z)
integer_spelled limit (pos n) low fit =
    let parts = decimal_is_IsNumeral n (omega (arith, fits_small limit n low fit)) in
    (decimal n, parts.0, inl (refl, ap pos (sym parts.1)))
integer_spelled limit (negsuc n) low fit =
    let parts = decimal_is_IsNumeral (suc n) (omega (arith, fits_small limit n low fit)) in
    (decimal (suc n), parts.0, inr (refl, ap (λ (k : ℕ). neg_ℤ (pos k)) (sym parts.1)))

hex_spelled : (bytes : List ℕ) → IsBytes bytes → SpellsHex bytes (34 ∷ encode_lower bytes ++ 34 ∷ [])
hex_spelled bytes all = (encode_lower bytes, decode_of-encode_lower bytes all, refl)

-- ---- marks

opens : IsSpaced 40 (codes "(")
opens = record { before = []; after = []; spaces_before = tt; spaces_after = tt; whole = refl }

comma : IsSpaced 44 (codes ", ")
comma = record { before = []; after = 32 ∷ []; spaces_before = tt; spaces_after = (refl, tt); whole = refl }

colon : IsSpaced 58 (codes ": ")
colon = record { before = []; after = 32 ∷ []; spaces_before = tt; spaces_after = (refl, tt); whole = refl }

closes : (mark : ℕ) → IsClosing mark (mark ∷ [])
closes mark = record { before = []; spaces_before = tt; whole = refl }

-- ---- values

field_spelled : (name : List ℕ) (value : Tree) → ¬ Contains name 0 → Spells value (printed value) → SpellsField name (Spells value) (printed_name name ++ (codes ": " ++ printed value))
field_spelled name value clean spelled = (printed_name name, codes ": ", printed value, name_spelled name clean, colon, spelled, refl)

mutual
  unfolding printed

  pub printed_spells : (tree : Tree) → IsLawful tree → Spells tree (printed tree)
  printed_spells null lawful = refl
  printed_spells (int32 number) lawful = (integer_spelled (2 ^ 31) number (omega arith) lawful, lawful)
  printed_spells (int64 number) lawful = (signed_decimal number, integer_spelled (2 ^ 63) number (omega arith) lawful, lawful, refl)
  printed_spells (text bytes) lawful = string_spelled false bytes (λ b. absurd cc)
  printed_spells (boolean true) lawful = refl
  printed_spells (boolean false) lawful = refl
  printed_spells (date milliseconds) lawful =
      (codes "(", signed_decimal milliseconds, codes ")", opens, integer_spelled (2 ^ 63) milliseconds (omega arith) lawful, lawful, closes 41, refl)
  printed_spells (binary subtype bytes) lawful =
      (codes "(", decimal subtype, codes ", ", 34 ∷ encode_lower bytes ++ 34 ∷ [], codes ")", opens, natural_spelled 255 subtype lawful.0 (omega (arith, lawful.0)), comma, hex_spelled bytes lawful.1, closes 41, simp append_assoc)
  printed_spells (object_id bytes) lawful =
      (codes "(", 34 ∷ encode_lower bytes ++ 34 ∷ [], codes ")", opens, hex_spelled bytes lawful.1, lawful.0, closes 41, simp append_assoc)
  printed_spells (timestamp ts) lawful =
      (ts / 2 ^ 32, ts % 2 ^ 32, codes "(", decimal (ts / 2 ^ 32), codes ", ", decimal (ts % 2 ^ 32), codes ")", opens, natural_spelled 4294967295 (ts / 2 ^ 32) (omega arith) (omega arith), comma, natural_spelled 4294967295 (ts % 2 ^ 32) (omega arith) (omega arith), closes 41, omega arith, simp append_assoc)
  printed_spells (document members) lawful = (lawful.0, printed_fields members ++ codes "}", (fields_spelled members lawful.0 lawful.1).0, refl)
  printed_spells (array members) lawful = (printed_items members ++ codes "]", (items_spelled members lawful).0, refl)

  fields_spelled : (fields : Fields) → IsDocument fields → AreLawful fields → SpellsFields fields (printed_fields fields ++ codes "}") × SpellsLaterFields fields (later_fields fields ++ codes "}")
  fields_spelled no_fields apart lawful = (closes 125, closes 125)
  fields_spelled (field name value others) apart lawful =
      let later = (fields_spelled others apart.2 lawful.1).1 in
      let one = field_spelled name value apart.0 (printed_spells value lawful.0) in (
        ([], printed_name name ++ (codes ": " ++ printed value), later_fields others ++ codes "}", tt, one, later, simp append_assoc),
        (codes ", ", printed_name name ++ (codes ": " ++ printed value), later_fields others ++ codes "}", comma, one, later, simp append_assoc),
      )

  items_spelled : (items : Trees) → AreAllLawful items → SpellsItems items (printed_items items ++ codes "]") × SpellsLaterItems items (later_items items ++ codes "]")
  items_spelled no_items lawful = (closes 93, closes 93)
  items_spelled (item value others) lawful =
      let later = (items_spelled others lawful.1).1 in
      let one = printed_spells value lawful.0 in (
        ([], printed value, later_items others ++ codes "]", tt, one, later, simp append_assoc),
        (codes ", ", printed value, later_items others ++ codes "]", comma, one, later, simp append_assoc),
      )

-- ---- and is read again

appended_again : (old : List ℕ) (tree : Tree) → IsLawful tree → IsReadAgain old (old ++ printed tree) tree
appended_again old tree lawful tail shallow whole =
    let stands : Stands ((old ++ printed tree) ++ tail) (length old) tree (length (old ++ printed tree)) = record {
      spelling = printed tree;
      rest = tail;
      spelled = printed_spells tree lawful;
      shallow = shallow;
      parts = ap (drop (length old)) (append_assoc old (printed tree) tail) ∙ drop_at old (printed tree ++ tail) (length old) refl;
      whole = whole;
      place = length-append old (printed tree);
    } in
    stands_answer ((old ++ printed tree) ++ tail) (length old) tree (length (old ++ printed tree)) (omega (arith, length-append (old ++ printed tree) tail, length-append old (printed tree))) stands

pub read_again : (old new : List ℕ) (tree : Tree) → IsLawful tree → new ≡ old ++ printed tree → IsReadAgain old new tree
read_again old new tree lawful is = subst (λ (bytes : List ℕ). IsReadAgain old bytes tree) (sym is) (appended_again old tree lawful)
