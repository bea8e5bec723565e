use Rattle.std.proofs.Common.{pos, codes, ap, ◌∙◌, ◌+◌, arith}
use Rattle.bson_doc.specs.Tree.{int64, field}
use Rattle.bson_doc.proofs.DocLemmas.{fields_from-end}
use Rattle.entry_bytes.proofs.PartLemmas.{no_id, past_session}
use Rattle.entry_bytes.proofs.reading.session_at.Goals as goal

pub returns-then-len-place-clause-value : goal.returns-then-len-place-clause-value
returns-then-len-place-clause-value c = fields_from-end c.args.document.now c.args.place (omega arith)

pub returns-then-len-place-2-clause-value : goal.returns-then-len-place-2-clause-value
returns-then-len-place-2-clause-value c = past_session c.args.document.now c.args.place (omega arith) (λ same. omega (arith, same))

pub returns-in_err-narrow_at-clause-value : goal.returns-in_err-narrow_at-clause-value
returns-in_err-narrow_at-clause-value c = rw c.from_residual.ensures (no_id c.args.document.now c.args.place (omega arith) c.in_err-narrow_at.ensures.value)

pub returns-clause-value : goal.returns-clause-value
returns-clause-value c =
    c.in_ok-narrow_at.ensures.value
    ∙ ap (λ rest. field (codes "lsid") (int64 (pos c.in_ok-narrow_at.field-0)) rest)
    (c.in_ok-narrow_at-2.ensures.value
    ∙ ap (λ rest. field (codes "txnNumber") (int64 (pos c.in_ok-narrow_at-2.field-0)) rest) (fields_from-end c.args.document.now (c.args.place + 1 + 1) (omega arith)))
