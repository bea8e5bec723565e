use Rattle.std.proofs.Common.{sym, ◌∙◌}
use Rattle.doc_fold.proofs.MapLemmas.{get-documents_of}
use Rattle.doc_shelf.proofs.documents.document_at.Goals as goal

pub returns : goal.returns
returns c = c.get.ensures.value ∙ sym (get-documents_of c.args.documents.now.entries c.args.place.now)
