use Rattle.std.proofs.Common.{◌∙◌, Some, ap}
use Rattle.std.specs.FinMap as maps
use Rattle.doc_fold.proofs.MapLemmas.{put_at-documents_of}
use Rattle.checkpoint_store.proofs.stable.DocumentMap.insert.Goals as goal

pub returns : goal.returns
returns c =
    put_at-documents_of c.self.inside.documents.entries c.insert.new.self.entries c.args.place (Some c.args.document) c.in_ok-insert.ensures.updates.0
    ∙ ap (λ m. maps.insert m c.args.place c.args.document) c.self.view_is
