use Rattle.std.proofs.Common.{ap, ◌∙◌}
use Rattle.bson_doc.specs.View.{tree_of}
use Rattle.doc_update.specs.Entries.{fields_in}
use Rattle.doc_update.specs.Ordered.{placed}
use Rattle.doc_update.proofs.OrderLemmas.{fields_in-insert}
use Rattle.doc_update.proofs.ordered.Ordered.put.Goals as goal

pub returns : goal.returns
returns c =
    ap fields_in c.in_ok-insert.ensures.entries ∙ fields_in-insert c.self.inside.fields.entries c.args.name c.args.value ∙ ap (λ f. placed f c.args.name (tree_of c.args.value)) c.self.view_is
