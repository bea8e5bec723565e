use Rattle.std.proofs.Common.{arith}
use Rattle.doc_text.proofs.HexDigits.{hex_digit_ok, hex_digit_err}
use Rattle.doc_text.proofs.strings.hex_digit.Goals as goal

pub skip-requires-clause-ascii : goal.skip-requires-clause-ascii
skip-requires-clause-ascii c =
    (hex_digit_ok c.args.text.now c.in-Ok.digits (omega arith) (rw c.as_bytes.ensures.value at c.in-Ok.ensures)).2

pub returns-in-Ok-clause-gives : goal.returns-in-Ok-clause-gives
returns-in-Ok-clause-gives c =
    rw c.skip.ensures (hex_digit_ok c.args.text.now c.in-Ok.digits (omega arith) (rw c.as_bytes.ensures.value at c.in-Ok.ensures)).0

pub returns-in-Ok-clause-small : goal.returns-in-Ok-clause-small
returns-in-Ok-clause-small c =
    (hex_digit_ok c.args.text.now c.in-Ok.digits (omega arith) (rw c.as_bytes.ensures.value at c.in-Ok.ensures)).1

pub returns-in-Err-clause-gives : goal.returns-in-Err-clause-gives
returns-in-Err-clause-gives c =
    rw c.at-in-Err.ensures (hex_digit_err c.args.text.now c.in-Err.field-0 (omega arith) (rw c.as_bytes.ensures.value at c.in-Err.ensures))
