use Rattle.std.proofs.Common.{None, ◌∙◌, sym}
use Rattle.doc_fold.proofs.MapLemmas.{get-documents_of, put_at-documents_of}
use Rattle.doc_shelf.proofs.documents.take_away.Goals as goal

pub returns-clause-stood : goal.returns-clause-stood
returns-clause-stood c = c.remove.ensures.value ∙ sym (get-documents_of c.args.documents.now.entries c.args.place.now)

pub returns-clause-put : goal.returns-clause-put
returns-clause-put c = put_at-documents_of c.args.documents.now.entries c.remove.new.self.entries c.args.place.now None c.remove.ensures.updates.0
