use Rattle.std.proofs.Common.{◌≡◌, pos, codes, ap, sym, ◌∙◌, arith}
use Rattle.std.proofs.lemmas.Int.{ints}
use Rattle.bson_doc.specs.Tree.{timestamp, int32, int64, field, fields_from}
use Rattle.bson_doc.proofs.DocLemmas.{fields_from-zero}
use Rattle.entry_bytes.proofs.reading.optime_in.Goals as goal

pub returns : goal.returns
returns c =
    let version : c.in_ok-int32_at.field-0 ≡ pos 2 = omega (arith, ints) in (
      c.in_ok-term.ensures.fits,
      sym (fields_from-zero c.args.document.now) ∙ c.in_ok-ts.ensures ∙ ap (λ rest. field (codes "ts") (timestamp c.in_ok-ts.ts) rest) (c.in_ok-term.ensures.value ∙ ap (λ rest. field (codes "t") (int64 (pos c.in_ok-term.term)) rest) (c.in_ok-int32_at.ensures ∙ ap (λ n. field (codes "v") (int32 n) (fields_from 3 c.args.document.now)) version)),
    )
