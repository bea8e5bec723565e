use Rattle.std.proofs.Common.{◌≡◌, true, sym, arith}
use Rattle.std.specs.Char.{is_ascii_digit}
use Rattle.std.specs.List.{list_all}
use Rattle.task_words.proofs.NumberLemmas.{no_number}
use Rattle.task_words.proofs.words.number.Goals as goal

pub returns-in_default : goal.returns-in_default
returns-in_default c =
    let digits : list_all is_ascii_digit c.args.word.now ≡ true = grind arith in
    sym (no_number c.args.least c.args.most c.args.word.now c.in_default.field-0 c.ranges.most.fits digits c.in_default.ensures.value.0)
