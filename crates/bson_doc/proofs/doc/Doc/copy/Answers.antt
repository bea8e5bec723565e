use Rattle.bson_doc.proofs.DocLemmas.{fields_of-copied}
use Rattle.bson_doc.proofs.doc.Doc.copy.Goals as goal

pub loop-field-preserved : goal.loop-field-preserved
loop-field-preserved c =
    rw c.in_ok-push.ensures.items (fields_of-copied _ _ c.loop-field.field-index c.in_ok-try_clone.field-0 c.field-item.result c.loop-field.invariant c.loop-field-test.true c.field-item.is c.in_ok-try_clone.ensures)
