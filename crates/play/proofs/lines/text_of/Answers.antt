use Rattle.std.proofs.Common.{◌≡◌, false, length, arith}
use Rattle.std.specs.Prelude.{nat_lt}
use Rattle.fault_script.proofs.LinesCut.{text_line, no_text}
use Rattle.play.proofs.lines.text_of.Goals as goal

pub returns-in-Some : goal.returns-in-Some
returns-in-Some c =
    let few : nat_lt 200000 c.args.number ≡ false = grind arith in
    let short : nat_lt 1048576 (length c.args.line.now) ≡ false = grind arith in
    text_line c.args.number c.args.line.now c.in-Some.text.now few short c.in-Some.ensures.0 c.in-Some.ensures.1

pub returns-in-None : goal.returns-in-None
returns-in-None c =
    let few : nat_lt 200000 c.args.number ≡ false = grind arith in
    let short : nat_lt 1048576 (length c.args.line.now) ≡ false = grind arith in
    no_text c.args.number c.args.line.now few short c.in-None.ensures
