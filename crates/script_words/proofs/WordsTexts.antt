-- Texts that begin with a byte, and texts without one.
use Rattle.std.proofs.Common.{◌≡◌, ◌≢◌, ℕ, ◌+◌, ◌-◌, ◌≤◌, ◌<◌, Bool, true, false, not, List, [], ◌∷◌, length, get_or, drop, Some, None, Result, Ok, Err, refl, ap, sym, arith, inl, inr}
use Rattle.std.specs.List.{position, position_or_len, slice_range, list_any, before_first}
use Rattle.std.proofs.Math.Seq.{take-length}
use Rattle.std.proofs.lemmas.Bool.{cases_eq}
use Rattle.std.proofs.lemmas.List.Folds.{list_any_at}
use Rattle.std.proofs.lemmas.List.Sums.{passes_at_first, prefix_len-le-length}
use Rattle.script_words.specs.declared.rule.ScriptRule.{ScriptRule}
use Rattle.script_words.specs.declared.rule.ScriptRule.TheVariants.{BadWord}
use Rattle.script_words.specs.Words.{is_space, is_slash, Left, after_word, word_at, numbered, cut_at_slash, optime_of, optime_target, target_of}
use Rattle.script_words.specs.Values.{after_space, unexpected}

-- a text that begins with another letter is no letter and number
pub numbered_other : (rule : ScriptRule) (letter most : ℕ) (text : List ℕ) → ((rest : List ℕ) → text ≢ letter ∷ rest) → numbered rule letter most text ≡ Err rule
numbered_other rule letter most [] other = refl
numbered_other rule letter most (c ∷ digits) other =
    elim (cases_eq c letter) [
      | inl same ↦ absurd (other digits (ap (λ (x : ℕ). x ∷ digits) same))
      | inr apart ↦ grind arith
    ]

-- a text that begins with no space
pub after_space_other : (text : List ℕ) → ((rest : List ℕ) → text ≢ 32 ∷ rest) → after_space text ≡ unexpected
after_space_other [] other = refl
after_space_other (c ∷ rest) other =
    elim (cases_eq c 32) [
      | inl same ↦ absurd (other rest (ap (λ (x : ℕ). x ∷ rest) same))
      | inr apart ↦ grind arith
    ]

-- A text without a byte of a kind.
none_first : (is_mark : ℕ → Bool) (b : Bool) (c : ℕ) (text : List ℕ) → is_mark c ≡ b → position_or_len is_mark (c ∷ text) ≡ length (c ∷ text)
    → (position_or_len is_mark text ≡ length text → list_any is_mark text ≡ false) → list_any is_mark (c ∷ text) ≡ false
none_first is_mark true c text is none later = let at : position_or_len is_mark (c ∷ text) ≡ 0 = rw is refl in absurd (omega (arith, at))
none_first is_mark false c text is none later =
    let at : position_or_len is_mark (c ∷ text) ≡ 1 + position_or_len is_mark text = rw is refl in
    rw is (later (omega (arith, at)))

no_mark : (is_mark : ℕ → Bool) (text : List ℕ) → position_or_len is_mark text ≡ length text → list_any is_mark text ≡ false
no_mark is_mark [] none = refl
no_mark is_mark (c ∷ text) none = none_first is_mark (is_mark c) c text refl none (no_mark is_mark text)

-- a text without a space is one word
pub one_word : (text : List ℕ) → None ≡ position is_space text → word_at (Some text) ≡ Ok (text, None)
unfolding word_at
one_word text nowhere =
    let far : length text ≤ position_or_len is_space text = grind arith in
    let none : position_or_len is_space text ≡ length text = omega (arith, far, prefix_len-le-length (λ c. not (is_space c)) text) in
    let whole : before_first is_space text ≡ text = rw none (take-length text) in
    rw (no_mark is_space text none, whole) refl

-- a text with a space, which is one byte, and the word before it
pub word_before : (text : List ℕ) (end : ℕ) → Some end ≡ position is_space text
    → (end < length text) × (get_or text end 0 < 128) × (word_at (Some text) ≡ Ok (slice_range text 0 end, Some (drop (end + 1) text)))
unfolding word_at
word_before text end found =
    let inside : position_or_len is_space text < length text = grind arith in
    let at : end ≡ position_or_len is_space text = grind arith in
    let within : end < length text = rw at inside in
    let space : is_space (get_or text end 0) ≡ true = rw at (passes_at_first is_space text 0 inside) in
    let some : list_any is_space text ≡ true = list_any_at is_space text end 0 within space in
    let whole : end - 0 ≡ end = omega arith in
    (within, grind (arith, space), rw (whole, some, at) refl)

pub no_slash : (text : List ℕ) → position_or_len is_slash text ≡ length text → cut_at_slash text ≡ Err BadWord
no_slash text none = rw (no_mark is_slash text none) refl

-- what is left in the end
abbrev left_of : Result (List ℕ × Left) ScriptRule → Left
left_of (Ok read) = read.1
left_of (Err rule) = None

-- what is left after a word that is read
pub after_read : (left : Left) (word : List ℕ) (rest : Left) → word_at left ≡ Ok (word, rest) → rest ≡ after_word left
unfolding word_at
after_read None word rest is = absurd cc
after_read (Some text) word rest is = sym (ap left_of is)

pub after_none : (left : Left) (rule : ScriptRule) → word_at left ≡ Err rule → None ≡ after_word left
unfolding word_at
after_none None rule is = refl
after_none (Some text) rule is = absurd cc

-- a text that doesn't begin with `w` names no writer
pub target_other : (text : List ℕ) → ((rest : List ℕ) → text ≢ 119 ∷ rest) → optime_target text ≡ target_of text
unfolding optime_target optime_of
target_other [] other = refl
target_other (c ∷ digits) other =
    elim (cases_eq c 119) [
      | inl same ↦ absurd (other digits (ap (λ (x : ℕ). x ∷ digits) same))
      | inr apart ↦ grind arith
    ]
