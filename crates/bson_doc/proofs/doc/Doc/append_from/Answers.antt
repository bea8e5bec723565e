use Rattle.bson_doc.proofs.doc.Doc.append_from.Goals as goal

pub append_shared-requires-clause-new : goal.append_shared-requires-clause-new
append_shared-requires-clause-new c = rw c.in_ok-field.ensures.at at c.requires.new

pub returns-clause-ok : goal.returns-clause-ok
returns-clause-ok c = rw c.in_ok-field.ensures.at c.in_ok-append_shared.ensures.ok
