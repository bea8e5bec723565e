use Rattle.std.proofs.Common.{codes, ap, ◌∙◌, arith}
use Rattle.bson_doc.proofs.DocLemmas.{fields_from-end}
use Rattle.entry_bytes.specs.Layout.{part}
use Rattle.entry_bytes.proofs.PartLemmas.{no_first_part, no_second_part}
use Rattle.entry_bytes.proofs.ops.two_parts.Goals as goal

pub returns-in_err-part_at : goal.returns-in_err-part_at
returns-in_err-part_at c = rw c.from_residual.ensures (no_first_part c.args.o.now c.requires c.in_err-part_at.ensures)

pub returns-in_err-part_at-2 : goal.returns-in_err-part_at-2
returns-in_err-part_at-2 c = rw c.from_residual-in_err-part_at-2.ensures (no_second_part c.args.o.now c.requires c.in_err-part_at-2.ensures)

pub returns : goal.returns
returns c =
    c.in_ok-part_at.ensures
    ∙ ap (part (codes "$set") c.in_ok-part_at.field-0.now) (c.in_ok-part_at-2.ensures ∙ ap (part (codes "$unset") c.in_ok-part_at-2.field-0.now) (fields_from-end c.args.o.now 3 (omega arith)))
