use Rattle.bson_doc.proofs.DocLemmas.{fields_from-end}
use Rattle.entry_bytes.proofs.places.member.Goals as goal

pub returns-in_err-own : goal.returns-in_err-own
returns-in_err-own c = rw c.from_residual.ensures (λ value rest here. let past = fields_from-end c.args.doc.now c.args.place c.in_err-own.ensures in cc)
