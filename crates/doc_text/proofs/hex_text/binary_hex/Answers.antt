use Rattle.doc_text.proofs.HexTexts.{binary_wrong_mark}
use Rattle.doc_text.proofs.hex_text.binary_hex.Goals as goal

pub returns-in_default-clause-gives : goal.returns-in_default-clause-gives
returns-in_default-clause-gives c =
    rw c.wrong.ensures (binary_wrong_mark c.args.text.now c.run.result.1.now c.run.ensures.back c.in_default.ensures)
