use Rattle.std.proofs.Common.{◌<◌, length, arith}
use Rattle.doc_text.proofs.Numerals.{run_of_digits}
use Rattle.doc_text.proofs.integers.digits.Goals as goal

pub returns-clause-numeral : goal.returns-clause-numeral
returns-clause-numeral c =
    let some : 0 < length c.run.result.0.now = grind arith in
    (some, rw c.run.ensures.front (run_of_digits c.args.text.now))
