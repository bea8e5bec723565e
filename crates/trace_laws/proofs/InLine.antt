-- What is written of a value has no line feed, and lines are cut at theirs.
use Rattle.std.proofs.Common.{◌≡◌, ℤ, pos, negsuc, ℕ, zero, suc, ◌+◌, ◌/◌, ◌%◌, ◌^◌, ◌≤◌, ◌<◌, Bool, true, false, cond, ◌==◌, List, [], ◌∷◌, ◌++◌, length, drop, Some, refl, ◌∙◌, arith}
use Rattle.std.specs.Prelude.{codes, nat_lt, not, slice_index}
use Rattle.std.specs.Fmt.{decimal, signed_decimal}
use Rattle.std.specs.List.{after_first, flat_map, list_all, list_any, position_or_len}
use Rattle.std.proofs.Math.Seq.{take-append_seam}
use Rattle.std.proofs.lemmas.List.Folds.{list_all-append}
use Rattle.hex.specs.Hex.{encode_lower, encode_with, lower_digits}
use Rattle.bson_doc.specs.Tree.{Tree, null, int32, int64, text, document, array, binary, object_id, boolean, date, timestamp, Fields, no_fields, field, Trees, no_items, item}
use Rattle.doc_text.specs.Bytes.{is_name_byte, is_name_start, is_plain}
use Rattle.doc_text.specs.Integers.{fits}
use Rattle.doc_text.specs.Printing.{is_bare, later_fields, later_items, printed, printed_byte, printed_fields, printed_items, printed_name, quoted}
use Rattle.doc_text.specs.Spelling.{AreAllLawful, AreLawful, IsLawful}
use Rattle.run_checker.specs.Reading.{after_line, is_line_feed, line_at}
use Rattle.script_words.proofs.Gets.{both}
use Rattle.script_laws.proofs.ChanceLines.{each_true, is_inside, is_text, low_byte}
use Rattle.trace_laws.proofs.WordsAgain.{is_printed}

-- ---- bytes

abbrev pub is_in_line : ℕ → Bool
is_in_line c = not (is_line_feed c)

-- it ends no line
abbrev pub InLine : List ℕ → Type 0
InLine bytes = list_all is_in_line bytes ≡ true

pub joined_in : (xs ys : List ℕ) → InLine xs → InLine ys → InLine (xs ++ ys)
joined_in xs ys one other = list_all-append is_in_line xs ys ∙ both (list_all is_in_line xs) (list_all is_in_line ys) one other

byte_in : (c : ℕ) → is_inside c ≡ true → is_in_line c ≡ true
byte_in c is = let low = (each_true (nat_lt 32 c) (nat_lt c 127) is).0 in let other : (c == 10) ≡ false = grind arith in rw other refl

pub word_in : (word : List ℕ) → list_all is_inside word ≡ true → InLine word
word_in [] all = refl
word_in (c ∷ word) all =
    let parts = each_true (is_inside c) (list_all is_inside word) all in
    both (is_in_line c) (list_all is_in_line word) (byte_in c parts.0) (word_in word parts.1)

pub text_in : (bytes : List ℕ) → list_all is_text bytes ≡ true → InLine bytes
text_in [] all = refl
text_in (c ∷ bytes) all =
    let parts = each_true (is_text c) (list_all is_text bytes) all in
    let other : is_line_feed c ≡ false = (low_byte c parts.0).2 in
    both (is_in_line c) (list_all is_in_line bytes) (rw other refl) (text_in bytes parts.1)

-- ---- lines

record IsEnded (line rest : List ℕ) : Type 0 where
  place : position_or_len is_line_feed (line ++ 10 ∷ rest) ≡ length line
  some : list_any is_line_feed (line ++ 10 ∷ rest) ≡ true

pub not_feed : (b : Bool) → not b ≡ true → b ≡ false
not_feed true is = absurd cc
not_feed false is = refl

ended_at : (line rest : List ℕ) → InLine line → IsEnded line rest
ended_at [] rest all = record { place = refl; some = refl }
ended_at (c ∷ line) rest all =
    let parts = each_true (is_in_line c) (list_all is_in_line line) all in
    let later = ended_at line rest parts.1 in
    let other : is_line_feed c ≡ false = not_feed (is_line_feed c) parts.0 in
    record { place = rw other (omega (arith, later.place)); some = rw other later.some }

-- a line with its end before others
pub line_is : (line rest : List ℕ) → InLine line → (line_at (line ++ 10 ∷ rest) ≡ line) × (after_line (line ++ 10 ∷ rest) ≡ Some rest)
line_is line rest all =
    let e = ended_at line rest all in
    let after : after_first is_line_feed (line ++ 10 ∷ rest) ≡ rest = rw (e.place) (after_length line rest) in
    (rw (e.place) (take-append_seam line (10 ∷ rest)), rw (e.some, after) refl)
  where
    after_length : (xs ys : List ℕ) → drop (length xs + 1) (xs ++ 10 ∷ ys) ≡ ys
    after_length [] ys = refl
    after_length (x ∷ xs) ys = let more : length (x ∷ xs) + 1 ≡ suc (length xs + 1) = omega arith in rw more (after_length xs ys)

-- ---- numbers and digits

pub number_in : (n : ℕ) → n < 2 ^ 64 → InLine (decimal n)
number_in n few = word_in (decimal n) (is_printed n few).inside

few_enough : (limit n : ℕ) → limit ≤ 2 ^ 63 → nat_lt n limit ≡ true → n + 1 < 2 ^ 64
few_enough limit n low fit = grind arith

signed_in : (limit : ℕ) (z : ℤ) → limit ≤ 2 ^ 63 → fits limit z ≡ true → InLine (signed_decimal z)
signed_in limit (pos n) low fit = number_in n (omega (arith, few_enough limit n low fit))
signed_in limit (negsuc n) low fit = number_in (suc n) (omega (arith, few_enough limit n low fit))

byte_at : (bytes : List ℕ) (place : ℕ) → InLine bytes → is_in_line (slice_index bytes place) ≡ true
byte_at [] place all = refl
byte_at (c ∷ bytes) zero all = (each_true (is_in_line c) (list_all is_in_line bytes) all).0
byte_at (c ∷ bytes) (suc place) all = byte_at bytes place (each_true (is_in_line c) (list_all is_in_line bytes) all).1

digits_in : (table bytes : List ℕ) → InLine table → InLine (encode_with table bytes)
unfolding encode_with
digits_in table [] all = refl
digits_in table (b ∷ bytes) all =
    both (is_in_line (slice_index table (b / 16))) _ (byte_at table (b / 16) all)
    (both (is_in_line (slice_index table (b % 16))) _ (byte_at table (b % 16) all) (digits_in table bytes all))

hex_in : (bytes : List ℕ) → InLine (encode_lower bytes)
hex_in bytes = digits_in lower_digits bytes refl

-- ---- strings and names

either_in : (b : Bool) (xs ys : List ℕ) → (b ≡ true → InLine xs) → (b ≡ false → InLine ys) → InLine (cond b xs ys)
either_in true xs ys one other = one refl
either_in false xs ys one other = other refl

itself_in : (c : ℕ) → (c == 10) ≡ false → InLine (c ∷ [])
itself_in c other = rw other refl

letter_in : (c : ℕ) → InLine (printed_byte c)
letter_in c =
    either_in (c == 34) _ _ (λ _. refl) (λ _.
    either_in (c == 92) _ _ (λ _. refl) (λ _.
    either_in (c == 10) _ _ (λ _. refl) (λ no_feed.
    either_in (c == 13) _ _ (λ _. refl) (λ _.
    either_in (c == 9) _ _ (λ _. refl) (λ _.
    either_in (is_plain c) _ _ (λ _. itself_in c no_feed) (λ _. joined_in (codes "\\u00") (encode_lower (c ∷ [])) refl (hex_in (c ∷ []))))))))

letters_in : (bytes : List ℕ) → InLine (flat_map printed_byte bytes)
letters_in [] = refl
letters_in (c ∷ bytes) = joined_in (printed_byte c) (flat_map printed_byte bytes) (letter_in c) (letters_in bytes)

quoted_in : (bytes : List ℕ) → InLine (quoted bytes)
quoted_in bytes = joined_in (flat_map printed_byte bytes) (34 ∷ []) (letters_in bytes) refl

name_byte_in : (c : ℕ) → is_name_byte c ≡ true → is_in_line c ≡ true
name_byte_in c is = let other : (c == 10) ≡ false = grind arith in rw other refl

name_bytes_in : (bytes : List ℕ) → list_all is_name_byte bytes ≡ true → InLine bytes
name_bytes_in [] all = refl
name_bytes_in (c ∷ bytes) all =
    let parts = each_true (is_name_byte c) (list_all is_name_byte bytes) all in
    both (is_in_line c) (list_all is_in_line bytes) (name_byte_in c parts.0) (name_bytes_in bytes parts.1)

bare_in : (name : List ℕ) → is_bare name ≡ true → InLine name
bare_in [] is = absurd cc
bare_in (c ∷ rest) is =
    let parts = each_true (is_name_start c) (list_all is_name_byte rest) is in
    let first : is_name_byte c ≡ true = let start = parts.0 in rw start refl in
    both (is_in_line c) (list_all is_in_line rest) (name_byte_in c first) (name_bytes_in rest parts.1)

name_in : (name : List ℕ) → InLine (printed_name name)
name_in name = either_in (is_bare name) name (quoted name) (bare_in name) (λ _. quoted_in name)

-- ---- values

mutual
  unfolding printed

  pub printed_in : (tree : Tree) → IsLawful tree → InLine (printed tree)
  printed_in null lawful = refl
  printed_in (boolean true) lawful = refl
  printed_in (boolean false) lawful = refl
  printed_in (int32 number) lawful = signed_in (2 ^ 31) number (omega arith) lawful
  printed_in (int64 number) lawful = joined_in (signed_decimal number) (codes "L") (signed_in (2 ^ 63) number (omega arith) lawful) refl
  printed_in (text bytes) lawful = quoted_in bytes
  printed_in (date milliseconds) lawful = joined_in (codes "Date(" ++ signed_decimal milliseconds) (codes ")") (signed_in (2 ^ 63) milliseconds (omega arith) lawful) refl
  printed_in (binary subtype bytes) lawful =
      joined_in (codes "Bin(" ++ decimal subtype ++ codes ", \"" ++ encode_lower bytes) (codes "\")")
      (joined_in (codes "Bin(" ++ decimal subtype ++ codes ", \"") (encode_lower bytes)
      (joined_in (codes "Bin(" ++ decimal subtype) (codes ", \"") (number_in subtype (omega (arith, lawful.0))) refl) (hex_in bytes)) refl
  printed_in (object_id bytes) lawful = joined_in (codes "Id(\"" ++ encode_lower bytes) (codes "\")") (hex_in bytes) refl
  printed_in (timestamp ts) lawful =
      joined_in (codes "Time(" ++ decimal (ts / 2 ^ 32) ++ codes ", " ++ decimal (ts % 2 ^ 32)) (codes ")")
      (joined_in (codes "Time(" ++ decimal (ts / 2 ^ 32) ++ codes ", ") (decimal (ts % 2 ^ 32))
      (joined_in (codes "Time(" ++ decimal (ts / 2 ^ 32)) (codes ", ") (number_in (ts / 2 ^ 32) (omega (arith, lawful))) refl) (number_in (ts % 2 ^ 32) (omega arith))) refl
  printed_in (document members) lawful = joined_in (codes "{" ++ printed_fields members) (codes "}") (fields_in members lawful.1).0 refl
  printed_in (array members) lawful = joined_in (codes "[" ++ printed_items members) (codes "]") (items_in members lawful).0 refl

  fields_in : (fields : Fields) → AreLawful fields → InLine (printed_fields fields) × InLine (later_fields fields)
  fields_in no_fields lawful = (refl, refl)
  fields_in (field name value others) lawful =
      let named = joined_in (printed_name name) (codes ": ") (name_in name) refl in
      let one = joined_in (printed_name name ++ codes ": ") (printed value) named (printed_in value lawful.0) in
      let later = (fields_in others lawful.1).1 in (
        joined_in (printed_name name ++ codes ": " ++ printed value) (later_fields others) one later,
        joined_in (codes ", " ++ printed_name name ++ codes ": " ++ printed value) (later_fields others)
            (joined_in (codes ", " ++ printed_name name ++ codes ": ") (printed value) (joined_in (codes ", " ++ printed_name name) (codes ": ") (name_in name) refl) (printed_in value lawful.0)) later,
      )

  items_in : (items : Trees) → AreAllLawful items → InLine (printed_items items) × InLine (later_items items)
  items_in no_items lawful = (refl, refl)
  items_in (item value others) lawful =
      let one = printed_in value lawful.0 in
      let later = (items_in others lawful.1).1 in (
        joined_in (printed value) (later_items others) one later,
        joined_in (codes ", " ++ printed value) (later_items others) one later,
      )
