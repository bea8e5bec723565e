use Rattle.std.proofs.Common.{◌≡◌, take}
use Rattle.bson_doc.specs.View.{fields_of}
use Rattle.bson_doc.proofs.doc.Doc.copy.Given as goal

abbrev pub invariant-loop-field : goal.invariant-loop-field
invariant-loop-field l = fields_of l.fields.items ≡ fields_of (take l.field-index l.field-items)
