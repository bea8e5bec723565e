use Rattle.std.proofs.Common.{◌∙◌, ap}
use Rattle.std.proofs.lemmas.Option.{get_or_from_slice_get}
use Rattle.bson_doc.specs.declared.key.IdKey.{IdKey}
use Rattle.version_store.specs.Past.{Past}
use Rattle.version_store.proofs.row.Row.at.Goals as goal

pub returns : goal.returns
returns c id past stands =
    ap (λ (e : IdKey × Past). e.1)
    (c.index.ensures ∙ get_or_from_slice_get c.self.inside.entries.items c.args.place (id, past) c.index.result.now (rw (← c.self.view_is) at stands))
