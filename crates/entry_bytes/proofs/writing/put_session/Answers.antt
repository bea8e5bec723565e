use Rattle.std.proofs.Common.{◌∙◌, ap, codes, refl}
use Rattle.bson_doc.specs.Tree.{found}
use Rattle.bson_doc.proofs.DocLemmas.{found-with_field}
use Rattle.entry_bytes.proofs.writing.put_session.Goals as goal

pub put-requires-in-Some-clause-new : goal.put-requires-in-Some-clause-new
put-requires-in-Some-clause-new c =
    ap (λ d. found (codes "txnNumber") d) c.in_ok-put-in-Some.ensures
    ∙ found-with_field c.args.document.now (codes "txnNumber") (codes "lsid") _ c.requires.number refl
