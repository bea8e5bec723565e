-- Digits that are no number of 64 bits.
use Rattle.std.proofs.Common.{◌≡◌, ℕ, ◌^◌, ◌<◌, true, List, None, Err, arith, rules}
use Rattle.std.specs.Char.{is_ascii_digit}
use Rattle.std.specs.List.{list_all}
use Rattle.std.specs.Str.Parse.{ParsesUnsigned, digits_value}
use Rattle.std.proofs.lemmas.Str.Parse.{IsNumeralModel, numerals_by_value, parse_digits}
use Rattle.task_words.specs.Tasks.{number_word}

are_numerals : IsNumeralModel (λ ds. list_all is_ascii_digit ds ≡ true) (digits_value 10)
are_numerals = numerals_by_value _ (search rules)

-- they are above each such number
pub no_number : {E : Type 0} (least most : ℕ) (word : List ℕ) (error : E) → most < 2 ^ 64 → list_all is_ascii_digit word ≡ true → ParsesUnsigned 64 10 word (Err error) → number_word least most word ≡ None
no_number least most word error small digits parses =
    let none = parse_digits are_numerals 64 word (Err error) parses digits in
    grind arith
