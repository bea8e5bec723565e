use Rattle.std.proofs.Common.{◌≡◌, Some, refl, sym, subst, ◌∙◌}
use Rattle.bson_doc.proofs.DocLemmas.{fields_from-zero}
use Rattle.oplog_entry.specs.Lawful.{BeginsWithId}
use Rattle.oplog_entry.specs.Step.{id_key}
use Rattle.entry_bytes.proofs.ops.stored_key.Goals as goal

pub returns : goal.returns
returns c =
    subst (λ d. BeginsWithId d × (id_key d ≡ Some c.in_ok-of.field-0)) (sym c.in-Some.ensures ∙ fields_from-zero c.args.o.now) (refl, c.in_ok-of.ensures.ok)
