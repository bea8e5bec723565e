use Rattle.std.proofs.Common.{arith}
use Rattle.doc_text.proofs.Cuts.{hex_boundary}
use Rattle.doc_text.proofs.HexTexts.{id_len, id_wrong_mark, id_wrong_count}
use Rattle.doc_text.proofs.hex_text.id_hex.Goals as goal

pub split_at-requires : goal.split_at-requires
split_at-requires c =
    let len = id_len c.args.text.now c.run.result.0.now c.min.result c.run.ensures.front c.min.ensures in
    hex_boundary c.args.text.now c.min.result c.utf8.text (omega (arith, len))

pub returns-in_default-clause-gives : goal.returns-in_default-clause-gives
returns-in_default-clause-gives c =
    let len = id_len c.args.text.now c.run.result.0.now c.min.result c.run.ensures.front c.min.ensures in
    rw c.wrong.ensures (id_wrong_mark c.args.text.now c.split_at.result.1.now c.min.result len c.split_at.ensures.back c.in_default.ensures)

pub returns-in-Err-clause-gives : goal.returns-in-Err-clause-gives
returns-in-Err-clause-gives c =
    let len = id_len c.args.text.now c.run.result.0.now c.min.result c.run.ensures.front c.min.ensures in
    rw c.wrong-in-Err.ensures (id_wrong_count c.args.text.now c.split_at.result.0.now c.split_at.result.1.now c.min.result c.in-Err.field-0 len c.split_at.ensures.front c.split_at.ensures.back c.in-Err.ensures)
