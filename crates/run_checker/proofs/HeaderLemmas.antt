-- The sizes that a header names are those of a set.
use Rattle.std.proofs.Common.{◌≡◌, ℕ, ◌≤◌, Bool, true, false, cond, List, Option, None, Some, Result, Ok, Err, refl, subst, ap, arith}
use Rattle.std.specs.Prelude.{codes, nat_le, nat_lt}
use Rattle.std.proofs.lemmas.Bool.{and_parts}
use Rattle.bson_doc.proofs.BindLemmas.{Gets, bind_gets}
use Rattle.script_words.specs.declared.rule.ScriptRule.{ScriptRule}
use Rattle.script_words.specs.Set.{most_voters}
use Rattle.script_words.specs.Words.{Left, number_at, word_at}
use Rattle.script_words.proofs.CommandsFit.{IsIn, number_within}
use Rattle.script_words.proofs.Gets.{bind_any, ended_gets}
use Rattle.set_model.specs.Run.{AreSizes}
use Rattle.run_checker.specs.Checking.{set_of}
use Rattle.run_checker.specs.Reading.{without_first, after_line, header_at, header_in, header_of, line_at, sizes_in, text_of, with_rest}

from_least : (least most n : ℕ) → IsIn least most n → least ≤ n
from_least least most n within = let low = (and_parts (nat_le least n) (nat_le n most) within).0 in grind arith

up_to_most : (least most n : ℕ) → IsIn least most n → n ≤ most
up_to_most least most n within = let high = (and_parts (nat_le least n) (nat_le n most) within).1 in grind arith

abbrev AreOfSet : ℕ × ℕ × ℕ → Type 0
AreOfSet sizes = AreSizes (set_of sizes)

-- up to seven of the nodes vote
seven_vote : (b : Bool) (nodes voters : ℕ) → nat_lt nodes 7 ≡ b → voters ≤ cond b nodes 7 → voters ≤ 7
seven_vote true nodes voters is within = grind arith
seven_vote false nodes voters is within = within

of_set : (nodes voters members : ℕ) → IsIn 1 50 nodes → IsIn 1 (most_voters nodes) voters → IsIn voters nodes members → AreOfSet (nodes, voters, members)
of_set nodes voters members few some same = record {
  one = from_least 1 (most_voters nodes) voters some;
  few = seven_vote (nat_lt nodes 7) nodes voters refl (up_to_most 1 (most_voters nodes) voters some);
  voting = from_least voters nodes members same;
  within = up_to_most voters nodes members same;
  most = up_to_most 1 50 nodes few;
}

header_gets : (text : List ℕ) → Gets (header_at text) AreOfSet
unfolding header_at
header_gets text =
    bind_any (word_at (Some text)) _ AreOfSet (λ first. bind_any (without_first (codes "trace") first) _ AreOfSet (λ left.
    bind_gets (number_at 1 50 left) _ (λ x. IsIn 1 50 x.0) AreOfSet (number_within 1 50 left) (λ nodes few.
    bind_gets (number_at 1 (most_voters nodes.0) nodes.1) _ (λ x. IsIn 1 (most_voters nodes.0) x.0) AreOfSet (number_within 1 (most_voters nodes.0) nodes.1) (λ voters some.
    bind_gets (number_at voters.0 nodes.0 voters.1) _ (λ x. IsIn voters.0 nodes.0 x.0) AreOfSet (number_within voters.0 nodes.0 voters.1) (λ members same.
    ended_gets members.1 _ AreOfSet (of_set nodes.0 voters.0 members.0 few some same))))))

line_gets : (line : List ℕ) → Gets (header_of line) AreOfSet
unfolding header_of
line_gets line = bind_any (text_of line) _ AreOfSet header_gets

-- the sizes that were read, or these
abbrev sizes_or : ℕ × ℕ × ℕ → Option ((ℕ × ℕ × ℕ) × List ℕ) → ℕ × ℕ × ℕ
sizes_or default None = default
sizes_or default (Some read) = read.0

pub header_sizes : (bytes rest : List ℕ) (sizes : ℕ × ℕ × ℕ) → header_in bytes ≡ Some (sizes, rest) → AreSizes (set_of sizes)
header_sizes bytes rest sizes is = by_parts (header_of (line_at bytes)) (after_line bytes) (line_gets (line_at bytes)) is
  where
    by_parts : (read : Result (ℕ × ℕ × ℕ) ScriptRule) (left : Left) → Gets read AreOfSet → with_rest (sizes_in read) left ≡ Some (sizes, rest) → AreOfSet sizes
    by_parts (Ok own) (Some after) fine is = subst AreOfSet (ap (sizes_or own) is) fine
    by_parts (Ok own) None fine is = absurd (cc is)
    by_parts (Err rule) left fine is = absurd (cc is)
