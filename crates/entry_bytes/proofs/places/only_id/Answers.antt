use Rattle.std.proofs.Common.{sym, ap, ◌∙◌, arith, codes}
use Rattle.bson_doc.specs.Tree.{field}
use Rattle.bson_doc.specs.View.{tree_of}
use Rattle.bson_doc.proofs.DocLemmas.{fields_from-zero, fields_from-end}
use Rattle.entry_bytes.proofs.places.only_id.Goals as goal

pub returns : goal.returns
returns c =
    let past = fields_from-end c.args.doc.now 1 (omega arith) in
    sym (fields_from-zero c.args.doc.now) ∙ c.in_ok-id.ensures ∙ ap (λ rest. field (codes "_id") (tree_of c.in_ok-id.id.now) rest) past
