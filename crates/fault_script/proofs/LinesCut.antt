-- A script cut at its line feeds.
use Rattle.std.proofs.Common.{◌≡◌, ℕ, ◌+◌, ◌-◌, ◌≤◌, ◌<◌, Bool, true, false, cond, ◌==◌, List, [], ◌∷◌, length, get_or, take, drop, Option, None, Some, Ok, Err, refl, ap, sym, ◌∙◌, arith}
use Rattle.std.specs.List.{position, position_or_len, slice_split, onto_first, before_first, after_first}
use Rattle.std.specs.Str.{is_utf8, IsUtf8}
use Rattle.std.specs.Str.Lines.{lines, lines_of_parts, strip_carriage_return}
use Rattle.std.proofs.lemmas.List.{take_rest, length-drop}
use Rattle.std.proofs.lemmas.List.Splits.{slice_split_first, slice_split_none}
use Rattle.std.proofs.lemmas.List.Sums.{fails_before_first, position_or_len_is}
use Rattle.std.specs.Prelude.{nat_lt}
use Rattle.memchr.specs.Find.{IsFirstByte, is_byte}
use Rattle.script_words.specs.declared.rule.ScriptRule.TheVariants.{NotUtf8}
use Rattle.fault_script.specs.Lines.{text_of}
use Rattle.std.proofs.lemmas.Str.{is_utf8-from_IsUtf8, IsUtf8-from_is_utf8}

abbrev pub line_feed : ℕ → Bool
line_feed byte = byte == 10

-- a cut gives one part at least
abbrev pub HasPart : List (List ℕ) → Type 0
HasPart ps = (part : List ℕ) × (others : List (List ℕ)) × (ps ≡ part ∷ others)

longer_part : (c : ℕ) (ps : List (List ℕ)) → HasPart ps → HasPart (onto_first c ps)
longer_part c [] (part, others, is) = absurd cc
longer_part c (part ∷ others) has = (c ∷ part, others, refl)

new_part : (b : Bool) (c : ℕ) (ps : List (List ℕ)) → HasPart ps → HasPart (cond b ([] ∷ ps) (onto_first c ps))
new_part true c ps has = ([], ps, refl)
new_part false c ps has = longer_part c ps has

pub some_part : (text : List ℕ) → HasPart (slice_split line_feed text)
some_part [] = ([], [], refl)
some_part (c ∷ text) = new_part (line_feed c) c (slice_split line_feed text) (some_part text)

fails : (b : Bool) → ¬ (b ≡ true) → b ≡ false
fails true other = absurd (other refl)
fails false other = refl

pub line_of : (line : List ℕ) (ps : List (List ℕ)) → HasPart ps → lines_of_parts (line ∷ ps) ≡ strip_carriage_return line ∷ lines_of_parts ps
line_of line [] (part, others, is) = absurd cc
line_of line (part ∷ others) has = refl

-- a search for the first line feed
pub first_feed : (text : List ℕ) (found : Option ℕ) → IsFirstByte (is_byte 10) text found → found ≡ position line_feed text
first_feed text None nowhere =
    let past : position_or_len line_feed text ≡ length text =
    position_or_len_is line_feed text (length text) 0 (omega arith) (λ k inside. fails (line_feed (get_or text k 0)) (nowhere k (omega arith) inside)) (λ inside. absurd (omega arith)) in
    grind (arith, past)
first_feed text (Some place) (first, feed) =
    let at : position_or_len line_feed text ≡ place =
    position_or_len_is line_feed text place 0 (omega (arith, first.high)) (λ k before. fails (line_feed (get_or text k 0)) (first.before k (omega arith) before)) (λ _. feed) in
    grind (arith, at, first.high)

-- a text up to its first line feed, and after it
pub line_at : (text line : List ℕ) (end : ℕ) → Some end ≡ position line_feed text → line ≡ strip_carriage_return (take end text)
    → (lines text ≡ line ∷ lines (take (length text - (end + 1)) (drop (end + 1) text))) × (length (take (length text - (end + 1)) (drop (end + 1) text)) < length text)
line_at text line end found is =
    let some : position_or_len line_feed text < length text = grind arith in
    let at : end ≡ position_or_len line_feed text = grind arith in
    let cut = slice_split_first line_feed text 0 some in
    rw (take_rest text (end + 1)) (
      ap lines_of_parts cut ∙ line_of (before_first line_feed text) (slice_split line_feed (after_first line_feed text)) (some_part (after_first line_feed text)) ∙ rw (is, at) refl,
      omega (arith, length-drop (end + 1) text),
    )

whole_line : (text : List ℕ) → 0 < length text → lines_of_parts (text ∷ []) ≡ text ∷ []
whole_line text some = let other : (length text == 0) ≡ false = grind arith in rw other refl

-- a text without a line feed
pub last_line : (text : List ℕ) → None ≡ position line_feed text → 0 < length text → lines text ≡ text ∷ lines []
last_line text none some =
    let far : length text ≤ position_or_len line_feed text = grind arith in
    ap lines_of_parts (slice_split_none line_feed text (λ k d below. fails_before_first line_feed text k d (omega (arith, far, below)))) ∙ whole_line text some

pub text_line : (number : ℕ) (line text : List ℕ) → nat_lt 200000 number ≡ false → nat_lt 1048576 (length line) ≡ false → text ≡ line → IsUtf8 line → text_of number line ≡ Ok text
unfolding text_of
text_line number line text few short same utf8 = rw (few, short, is_utf8-from_IsUtf8 line utf8) (ap (λ (t : List ℕ). Ok t) (sym same))

pub no_text : (number : ℕ) (line : List ℕ) → nat_lt 200000 number ≡ false → nat_lt 1048576 (length line) ≡ false → (IsUtf8 line → ⊥) → text_of number line ≡ Err NotUtf8
unfolding text_of
no_text number line few short other = rw (few, short) (by_test (is_utf8 line) refl)
  where
    by_test : (b : Bool) → is_utf8 line ≡ b → cond (is_utf8 line) (Ok line) (Err NotUtf8) ≡ Err NotUtf8
    by_test true is = absurd (other (IsUtf8-from_is_utf8 line is))
    by_test false is = rw is refl
