use Rattle.std.proofs.Common.{◌∙◌}
use Rattle.std.specs.BTreeMap.{IsFromIterResult}
use Rattle.std.proofs.lemmas.Iterator.Adapters.{YieldsList-from_vec, fact_from_collect}
use Rattle.bson_doc.specs.Place.{place_cmp}
use Rattle.checkpoint_store.proofs.stable.collected.Goals as goal

pub returns : goal.returns
returns c =
    fact_from_collect (IsFromIterResult place_cmp) c.collect.result c.collect.ensures.ran
    (YieldsList-from_vec c.args.documents.items c.into_iter.ensures.rest (c.into_iter.ensures.len ∙ c.args.documents.ok.0))
