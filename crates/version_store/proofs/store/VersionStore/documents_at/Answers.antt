use Rattle.version_store.proofs.ShownLemmas.{are_shown}
use Rattle.version_store.proofs.store.VersionStore.documents_at.Goals as goal

pub returns : goal.returns
returns c = are_shown c.args.self.now c.args.at c.in_ok-documents.documents.items _ (λ place. c.in_ok-documents.ensures place) c.in_ok-ordered.ensures.moved c.in_ok-ordered.ensures.order
