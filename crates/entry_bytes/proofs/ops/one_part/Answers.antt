use Rattle.std.proofs.Common.{codes, ap, ◌∙◌, arith}
use Rattle.bson_doc.proofs.DocLemmas.{fields_from-end}
use Rattle.entry_bytes.specs.Layout.{part}
use Rattle.entry_bytes.proofs.PartLemmas.{no_one_part}
use Rattle.entry_bytes.proofs.ops.one_part.Goals as goal

pub returns-in-Some : goal.returns-in-Some
returns-in-Some c = c.in-Some.ensures ∙ ap (part (codes "$set") c.in-Some.sets.now) (fields_from-end c.args.o.now 2 (omega arith))

pub returns-in_err-part_at : goal.returns-in_err-part_at
returns-in_err-part_at c = rw c.from_residual.ensures (no_one_part c.args.o.now c.requires c.in_default.ensures c.in_err-part_at.ensures)

pub returns : goal.returns
returns c = c.in_ok-part_at.ensures ∙ ap (part (codes "$unset") c.in_ok-part_at.field-0.now) (fields_from-end c.args.o.now 2 (omega arith))
