-- Words of plain bytes, one after the other, are read one by one.
use Rattle.std.proofs.Common.{◌≡◌, ℕ, suc, ◌+◌, ◌^◌, ◌≤◌, ◌<◌, Bool, true, false, cond, ◌==◌, List, [], ◌∷◌, ◌++◌, length, drop, None, Some, Ok, refl, ap, ◌∙◌, arith}
use Rattle.std.specs.Prelude.{nat_lt, nat_le}
use Rattle.std.specs.Fmt.{decimal}
use Rattle.std.specs.List.{list_all, list_any, count_by, position_or_len, before_first, after_first}
use Rattle.std.specs.Char.{is_ascii_digit}
use Rattle.std.specs.Str.Parse.{AllDigits, digits_value}
use Rattle.std.proofs.Math.Seq.{take-length, take-append_seam}
use Rattle.std.proofs.lemmas.List.Sums.{sum_by-cons}
use Rattle.std.proofs.lemmas.Fmt.{decimal_is_IsNumeral, length-decimal-le}
use Rattle.std.proofs.lemmas.Str.Parse.{digit_from_value}
use Rattle.script_words.specs.declared.rule.ScriptRule.{ScriptRule}
use Rattle.script_words.specs.declared.rule.ScriptRule.TheVariants.{BadNode}
use Rattle.script_words.specs.Words.{is_space, Left, left_after, word_count, word_at, number_of, number_at, node_at, other_node_at}
use Rattle.script_words.proofs.Gets.{both}
use Rattle.script_laws.proofs.ChanceLines.{is_text, is_inside, each_true}

-- ---- words

not_space : (c : ℕ) → is_inside c ≡ true → is_space c ≡ false
not_space c is = let low = (each_true (nat_lt 32 c) (nat_lt c 127) is).0 in grind arith

inside_is_text : (c : ℕ) → is_inside c ≡ true → is_text c ≡ true
inside_is_text c is = let bounds = each_true (nat_lt 32 c) (nat_lt c 127) is in let low = bounds.0 in both (nat_lt 31 c) (nat_lt c 127) (grind arith) bounds.1

pub word_is_text : (word : List ℕ) → list_all is_inside word ≡ true → list_all is_text word ≡ true
word_is_text [] all = refl
word_is_text (c ∷ word) all = let parts = each_true (is_inside c) (list_all is_inside word) all in both (is_text c) (list_all is_text word) (inside_is_text c parts.0) (word_is_text word parts.1)

counted : (b : Bool) (c : ℕ) (text : List ℕ) → is_space c ≡ b → count_by is_space (c ∷ text) ≡ cond b 1 0 + count_by is_space text
counted b c text is = sum_by-cons (λ x. cond (is_space x) 1 0) c text ∙ ap (λ (x : Bool). cond x 1 0 + count_by is_space text) is

-- a word with a space after it
record IsCut (word rest : List ℕ) : Type 0 where
  place : position_or_len is_space (word ++ 32 ∷ rest) ≡ length word
  some : list_any is_space (word ++ 32 ∷ rest) ≡ true
  count : count_by is_space (word ++ 32 ∷ rest) ≡ suc (count_by is_space rest)

cut : (word rest : List ℕ) → list_all is_inside word ≡ true → IsCut word rest
cut [] rest all = record { place = refl; some = refl; count = omega (arith, counted true 32 rest refl) }
cut (c ∷ word) rest all =
    let parts = each_true (is_inside c) (list_all is_inside word) all in
    let later = cut word rest parts.1 in
    let other = not_space c parts.0 in
    record { place = rw other (omega (arith, later.place)); some = rw other later.some; count = omega (arith, counted false c (word ++ 32 ∷ rest) other, later.count) }

-- a word with nothing after it
record IsLast (word : List ℕ) : Type 0 where
  place : position_or_len is_space word ≡ length word
  none : list_any is_space word ≡ false
  count : count_by is_space word ≡ 0

last : (word : List ℕ) → list_all is_inside word ≡ true → IsLast word
last [] all = record { place = refl; none = refl; count = refl }
last (c ∷ word) all =
    let parts = each_true (is_inside c) (list_all is_inside word) all in
    let later = last word parts.1 in
    let other = not_space c parts.0 in
    record { place = rw other (omega (arith, later.place)); none = rw other later.none; count = omega (arith, counted false c word other, later.count) }

pub after_is : (word rest : List ℕ) → list_all is_inside word ≡ true → left_after (word ++ 32 ∷ rest) ≡ Some rest
after_is word rest all =
    let c = cut word rest all in
    let after : after_first is_space (word ++ 32 ∷ rest) ≡ rest = rw c.place (after_length word rest) in
    rw (c.some, after) refl
  where
    after_length : (xs ys : List ℕ) → drop (length xs + 1) (xs ++ 32 ∷ ys) ≡ ys
    after_length [] ys = refl
    after_length (x ∷ xs) ys = let more : length (x ∷ xs) + 1 ≡ suc (length xs + 1) = omega arith in rw more (after_length xs ys)

pub word_is : (word rest : List ℕ) → list_all is_inside word ≡ true → word_at (Some (word ++ 32 ∷ rest)) ≡ Ok (word, Some rest)
unfolding word_at
word_is word rest all =
    let before : before_first is_space (word ++ 32 ∷ rest) ≡ word = rw ((cut word rest all).place) (take-append_seam word (32 ∷ rest)) in
    let after : left_after (word ++ 32 ∷ rest) ≡ Some rest = after_is word rest all in
    ap (λ (w : List ℕ). Ok (w, left_after (word ++ 32 ∷ rest))) before ∙ ap (λ (l : Left). Ok (word, l)) after

pub last_word : (word : List ℕ) → list_all is_inside word ≡ true → word_at (Some word) ≡ Ok (word, None)
unfolding word_at
last_word word all =
    let l = last word all in
    let before : before_first is_space word ≡ word = rw (l.place) (take-length word) in
    let after : left_after word ≡ None = rw (l.none) refl in
    ap (λ (w : List ℕ). Ok (w, left_after word)) before ∙ ap (λ (x : Left). Ok (word, x)) after

pub one_more_word : (word rest : List ℕ) → list_all is_inside word ≡ true → word_count (Some (word ++ 32 ∷ rest)) ≡ 1 + word_count (Some rest)
one_more_word word rest all = omega (arith, (cut word rest all).count)

pub only_word : (word : List ℕ) → list_all is_inside word ≡ true → word_count (Some word) ≡ 1
only_word word all = omega (arith, (last word all).count)

-- ---- numbers

digit_byte : (c : ℕ) → 48 ≤ c → c ≤ 57 → (is_ascii_digit c ≡ true) × (is_inside c ≡ true)
digit_byte c low high = (grind arith, both (nat_lt 32 c) (nat_lt c 127) (grind arith) (grind arith))

pub digits_are : (digits : List ℕ) → AllDigits 10 digits → (list_all is_ascii_digit digits ≡ true) × (list_all is_inside digits ≡ true)
digits_are [] all = (refl, refl)
digits_are (c ∷ digits) all =
    let range = digit_from_value c all.0 in
    let one = digit_byte c (omega arith) (omega arith) in
    let later = digits_are digits all.1 in
    (both (is_ascii_digit c) (list_all is_ascii_digit digits) one.0 later.0, both (is_inside c) (list_all is_inside digits) one.1 later.1)

-- a number as it is written
pub record IsWritten (n : ℕ) : Type 0 where
  pub some : 0 < length (decimal n)
  pub short : length (decimal n) ≤ 19
  pub digits : list_all is_ascii_digit (decimal n) ≡ true
  pub inside : list_all is_inside (decimal n) ≡ true
  pub value : digits_value 10 (decimal n) ≡ n

pub is_written : (n : ℕ) → n < 10 ^ 19 → IsWritten n
is_written n few =
    let parts = decimal_is_IsNumeral n (omega arith) in
    let all = digits_are (decimal n) parts.0.1 in
    record { some = parts.0.0; short = length-decimal-le 19 n (omega arith) few (omega arith); digits = all.0; inside = all.1; value = parts.1 }

pub number_is : (form range : ScriptRule) (least most n : ℕ) → n < 10 ^ 19 → least ≤ n → n ≤ most → number_of form range least most (decimal n) ≡ Ok n
number_is form range least most n few low high =
    let written = is_written n few in
    let some : nat_lt 0 (length (decimal n)) ≡ true = let positive = written.some in grind arith in
    let above : nat_le least n ≡ true = grind arith in
    let below : nat_le n most ≡ true = grind arith in
    rw (some, written.digits, written.value, above, below) refl

-- ---- nodes

abbrev pub name_of : ℕ → List ℕ
name_of node = 110 ∷ decimal node

pub name_inside : (node : ℕ) → node < 10 ^ 19 → list_all is_inside (name_of node) ≡ true
name_inside node few = (is_written node few).inside

pub node_is : (nodes node : ℕ) (rest : List ℕ) → node < nodes → nodes ≤ 50 → node_at nodes (Some (name_of node ++ 32 ∷ rest)) ≡ Ok (node, Some rest)
unfolding node_at
node_is nodes node rest within few =
    let small : nat_lt node nodes ≡ true = grind arith in
    rw (word_is (name_of node) rest (name_inside node (omega arith)), number_is BadNode BadNode 0 4294967295 node (omega arith) (omega arith) (omega arith), small) refl

pub last_node : (nodes node : ℕ) → node < nodes → nodes ≤ 50 → node_at nodes (Some (name_of node)) ≡ Ok (node, None)
unfolding node_at
last_node nodes node within few =
    let small : nat_lt node nodes ≡ true = grind arith in
    rw (last_word (name_of node) (name_inside node (omega arith)), number_is BadNode BadNode 0 4294967295 node (omega arith) (omega arith) (omega arith), small) refl

pub other_last_node : (nodes node other : ℕ) → other < nodes → nodes ≤ 50 → (other ≡ node → ⊥) → other_node_at nodes node (Some (name_of other)) ≡ Ok (other, None)
unfolding other_node_at
other_last_node nodes node other within few apart =
    let different : (other == node) ≡ false = grind arith in
    rw (last_node nodes other within few, different) refl

-- a number at the end of a line
pub last_number : (least most n : ℕ) → n < 10 ^ 19 → least ≤ n → n ≤ most → number_at least most (Some (decimal n)) ≡ Ok (n, None)
unfolding number_at
last_number least most n few low high = rw (last_word (decimal n) ((is_written n few).inside), number_is _ _ least most n few low high) refl
