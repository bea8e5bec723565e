use Rattle.std.proofs.Common.{arith}
use Rattle.std.proofs.lemmas.Grind.{common_steps}
use Rattle.bson_doc.proofs.DocLemmas.{fields_from-end}
use Rattle.oplog_entry.proofs.index.FieldIndex.get.Goals as goal

pub returns-in_err-value : goal.returns-in_err-value
returns-in_err-value c =
    let none = fields_from-end c.args.self.now c.in_ok-place.place.now in
    let held = (rw c.in-Some.is at c.self.invariant) c.args.name.now in
    grind (arith, common_steps)
