use Rattle.std.proofs.Common.{◌≡◌, ◌<◌, true, length, lit<, sym, arith}
use Rattle.std.specs.Char.{is_ascii_digit}
use Rattle.std.specs.List.{list_all}
use Rattle.script_words.proofs.WordsNumbers.{no_number}
use Rattle.script_words.proofs.words.long_of.Goals as goal

pub returns-in-Err : goal.returns-in-Err
returns-in-Err c =
    let some : 0 < length c.args.word.now = grind arith in
    let digits : list_all is_ascii_digit c.args.word.now ≡ true = grind arith in
    sym (no_number c.args.form c.args.range 64 0 18446744073709551615 c.args.word.now c.in-Err.field-0 (lit< tt) some digits c.in-Err.ensures.value.0)
