use Rattle.std.proofs.Common.{Some, ◌∙◌, sym}
use Rattle.doc_fold.proofs.MapLemmas.{get-documents_of, put_at-documents_of}
use Rattle.doc_shelf.proofs.documents.put.Goals as goal

pub returns-clause-stood : goal.returns-clause-stood
returns-clause-stood c = c.in_ok-insert.ensures.old ∙ sym (get-documents_of c.args.documents.now.entries c.args.place)

pub returns-clause-put : goal.returns-clause-put
returns-clause-put c = put_at-documents_of c.args.documents.now.entries c.insert.new.self.entries c.args.place (Some c.args.document) c.in_ok-insert.ensures.updates.0
