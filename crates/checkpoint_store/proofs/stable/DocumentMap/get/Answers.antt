use Rattle.std.proofs.Common.{◌∙◌, ap, sym}
use Rattle.std.specs.FinMap as maps
use Rattle.doc_fold.proofs.MapLemmas.{get-documents_of}
use Rattle.checkpoint_store.proofs.stable.DocumentMap.get.Goals as goal

pub returns : goal.returns
returns c =
    c.get.ensures.value ∙ sym (get-documents_of c.self.inside.documents.entries c.args.place.now)
    ∙ ap (λ m. maps.get m c.args.place.now) c.self.view_is
