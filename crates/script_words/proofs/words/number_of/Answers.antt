use Rattle.std.proofs.Common.{◌≡◌, ◌<◌, ◌^◌, true, length, sym, arith}
use Rattle.std.specs.Char.{is_ascii_digit}
use Rattle.std.specs.List.{list_all}
use Rattle.script_words.proofs.WordsNumbers.{no_number}
use Rattle.script_words.proofs.words.number_of.Goals as goal

pub returns-in_default : goal.returns-in_default
returns-in_default c =
    let small : c.args.most < 2 ^ 32 = omega arith in
    let some : 0 < length c.args.word.now = grind arith in
    let digits : list_all is_ascii_digit c.args.word.now ≡ true = grind arith in
    sym (no_number c.args.form c.args.range 32 c.args.least c.args.most c.args.word.now c.in_default.field-0 small some digits c.in_default.ensures.value.0)
