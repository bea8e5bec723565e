use Rattle.checkpoint_store.proofs.ListedLemmas.{listed_make}
use Rattle.checkpoint_store.proofs.stable.DocumentMap.of.Goals as goal

pub returns : goal.returns
returns c = listed_make c.args.documents.items c.in_ok-collected.field-0.entries c.in_ok-collected.ensures.0
