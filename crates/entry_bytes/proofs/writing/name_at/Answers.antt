use Rattle.bson_doc.proofs.DocLemmas.{trees_from-end}
use Rattle.entry_bytes.proofs.writing.name_at.Goals as goal

pub returns-in_err-name : goal.returns-in_err-name
returns-in_err-name c = rw c.from_residual.ensures (λ name rest here. let past = trees_from-end c.args.unsets.now c.args.place c.in_err-name.ensures in cc)
