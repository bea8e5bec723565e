use Rattle.bson_doc.proofs.doc.Doc.set_from.Goals as goal

pub returns-clause-ok : goal.returns-clause-ok
returns-clause-ok c = rw c.in_ok-field.ensures.at c.in_ok-put_shared.ensures.ok
