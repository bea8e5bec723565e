-- Numbers and names as they are written are read word by word.
use Rattle.std.proofs.Common.{◌≡◌, ℕ, ◌^◌, ◌≤◌, ◌<◌, true, false, ◌==◌, List, ◌∷◌, ◌++◌, length, None, Some, Ok, refl, arith}
use Rattle.std.specs.Prelude.{nat_lt, nat_le}
use Rattle.std.specs.Fmt.{decimal}
use Rattle.std.specs.List.{list_all}
use Rattle.std.specs.Char.{is_ascii_digit}
use Rattle.std.specs.Str.Parse.{digits_value}
use Rattle.std.proofs.lemmas.Fmt.{decimal_is_IsNumeral}
use Rattle.script_words.specs.declared.rule.ScriptRule.{ScriptRule}
use Rattle.script_words.specs.declared.rule.ScriptRule.TheVariants.{BadNode, BadNumber, BadWord}
use Rattle.script_words.specs.Words.{Left, Read, message_at, node_at, number_at, number_of, other_node_at, writer_at}
use Rattle.script_laws.proofs.ChanceLines.{is_inside}
use Rattle.script_laws.proofs.ChanceWords.{digits_are, last_word, word_is}

-- ---- numbers of up to 64 bits

-- a number as it is written
pub record IsPrinted (n : ℕ) : Type 0 where
  pub some : 0 < length (decimal n)
  pub digits : list_all is_ascii_digit (decimal n) ≡ true
  pub inside : list_all is_inside (decimal n) ≡ true
  pub value : digits_value 10 (decimal n) ≡ n

pub is_printed : (n : ℕ) → n < 2 ^ 64 → IsPrinted n
is_printed n few =
    let parts = decimal_is_IsNumeral n few in
    let all = digits_are (decimal n) parts.0.1 in
    record { some = parts.0.0; digits = all.0; inside = all.1; value = parts.1 }

pub number_again : (form range : ScriptRule) (least most n : ℕ) → n < 2 ^ 64 → least ≤ n → n ≤ most → number_of form range least most (decimal n) ≡ Ok n
number_again form range least most n few low high =
    let printed = is_printed n few in
    let some : nat_lt 0 (length (decimal n)) ≡ true = let positive = printed.some in grind arith in
    let above : nat_le least n ≡ true = grind arith in
    let below : nat_le n most ≡ true = grind arith in
    rw (some, printed.digits, printed.value, above, below) refl

-- ---- a word that others follow, and the last one

-- what reads a word gives this back of its text, whatever follows it
pub record Again {A : Type 0} (read : Left → Read A) (word : List ℕ) (x : A) : Type 0 where
  pub inside : list_all is_inside word ≡ true
  pub before : (rest : List ℕ) → read (Some (word ++ 32 ∷ rest)) ≡ Ok (x, Some rest)
  pub last : read (Some word) ≡ Ok (x, None)

pub number_word : (least most n : ℕ) → n < 2 ^ 64 → least ≤ n → n ≤ most → Again (number_at least most) (decimal n) n
unfolding number_at
number_word least most n few low high =
    let printed = is_printed n few in
    record {
      inside = printed.inside;
      before = λ rest. rw (word_is (decimal n) rest printed.inside, number_again BadWord BadNumber least most n few low high) refl;
      last = rw (last_word (decimal n) printed.inside, number_again BadWord BadNumber least most n few low high) refl;
    }

abbrev pub node_name : ℕ → List ℕ
node_name node = 110 ∷ decimal node

pub node_word : (nodes node : ℕ) → node < nodes → nodes ≤ 50 → Again (node_at nodes) (node_name node) node
unfolding node_at
node_word nodes node within few =
    let printed = is_printed node (omega arith) in
    let small : nat_lt node nodes ≡ true = grind arith in
    record {
      inside = printed.inside;
      before = λ rest. rw (word_is (node_name node) rest printed.inside, number_again BadNode BadNode 0 4294967295 node (omega arith) (omega arith) (omega arith), small) refl;
      last = rw (last_word (node_name node) printed.inside, number_again BadNode BadNode 0 4294967295 node (omega arith) (omega arith) (omega arith), small) refl;
    }

pub other_word : (nodes node other : ℕ) → other < nodes → nodes ≤ 50 → (other ≡ node → ⊥) → Again (other_node_at nodes node) (node_name other) other
unfolding other_node_at
other_word nodes node other within few apart =
    let own = node_word nodes other within few in
    let different : (other == node) ≡ false = grind arith in
    record { inside = own.inside; before = λ rest. rw (own.before rest, different) refl; last = rw (own.last, different) refl }

abbrev pub writer_name : ℕ → List ℕ
writer_name writer = 119 ∷ decimal writer

pub writer_word : (writer : ℕ) → writer < 1000 → Again writer_at (writer_name writer) writer
unfolding writer_at
writer_word writer few =
    let printed = is_printed writer (omega arith) in
    record {
      inside = printed.inside;
      before = λ rest. rw (word_is (writer_name writer) rest printed.inside, number_again BadWord BadWord 0 999 writer (omega arith) (omega arith) (omega arith)) refl;
      last = rw (last_word (writer_name writer) printed.inside, number_again BadWord BadWord 0 999 writer (omega arith) (omega arith) (omega arith)) refl;
    }

pub message_word : (message : ℕ) → message < 2 ^ 64 → Again message_at (109 ∷ decimal message) message
unfolding message_at
message_word message few =
    let printed = is_printed message few in
    record {
      inside = printed.inside;
      before = λ rest. rw (word_is (109 ∷ decimal message) rest printed.inside, number_again BadWord BadWord 0 18446744073709551615 message few (omega arith) (omega arith)) refl;
      last = rw (last_word (109 ∷ decimal message) printed.inside, number_again BadWord BadWord 0 18446744073709551615 message few (omega arith) (omega arith)) refl;
    }
