-- What is read of digits.
use Rattle.std.proofs.Common.{◌≡◌, ℕ, ◌^◌, ◌<◌, true, List, length, Err, arith, rules}
use Rattle.std.specs.Char.{is_ascii_digit}
use Rattle.std.specs.List.{list_all}
use Rattle.std.specs.Str.Parse.{ParsesUnsigned, digits_value}
use Rattle.std.proofs.lemmas.Str.Parse.{IsNumeralModel, numerals_by_value, parse_digits}
use Rattle.script_words.specs.declared.rule.ScriptRule.{ScriptRule}
use Rattle.script_words.specs.Words.{number_of}

are_numerals : IsNumeralModel (λ ds. list_all is_ascii_digit ds ≡ true) (digits_value 10)
are_numerals = numerals_by_value _ (search rules)

-- digits that are no number of so many bits are above each such number
pub no_number : {E : Type 0} (form range : ScriptRule) (bits least most : ℕ) (word : List ℕ) (error : E) → most < 2 ^ bits → 0 < length word → list_all is_ascii_digit word ≡ true → ParsesUnsigned bits 10 word (Err error) → number_of form range least most word ≡ Err range
no_number form range bits least most word error small some digits parses =
    let none = parse_digits are_numerals bits word (Err error) parses digits in
    grind arith
