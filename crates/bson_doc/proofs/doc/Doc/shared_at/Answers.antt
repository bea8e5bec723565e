use Rattle.std.proofs.Common.{◌<◌, length, arith}
use Rattle.bson_doc.proofs.DocLemmas.{count-fields_of, shared-at}
use Rattle.bson_doc.proofs.SoundLemmas.{sound-at}
use Rattle.bson_doc.proofs.doc.Doc.shared_at.Goals as goal

pub returns-clause-sound : goal.returns-clause-sound
returns-clause-sound c =
    let fields = c.self.inside.fields.items in
    let within : c.args.place < length fields = omega (arith, count-fields_of fields, rw (← c.self.view_is) at c.requires) in
    sound-at _ c.args.place _ _ _ c.self.invariant (shared-at fields c.args.place c.in_ok-field.field c.index.result.now within c.index.ensures c.in_ok-field.ensures)
