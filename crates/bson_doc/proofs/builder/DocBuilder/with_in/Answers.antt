use Rattle.bson_doc.specs.View.{tree_of}
use Rattle.bson_doc.proofs.builder.DocBuilder.with_in.Goals as goal

pub invariant_of-result : goal.invariant_of-result
invariant_of-result c = rw (c.in_ok-append_in.ensures.ok, ← c.as_str.ensures) (c.in_ok-names.ensures (tree_of c.args.value))
