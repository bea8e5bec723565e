use Rattle.std.proofs.Common.{arith}
use Rattle.bson_doc.proofs.DocLemmas.{fields_from-end}
use Rattle.entry_bytes.proofs.PartLemmas.{count-parts}
use Rattle.entry_bytes.proofs.ops.parts_in.Goals as goal

pub returns-in-1 : goal.returns-in-1
returns-in-1 c = fields_from-end c.args.o.now 1 (omega arith)

pub returns-in_default : goal.returns-in_default
returns-in_default c = λ sets unsets here. absurd (omega (arith, count-parts c.args.o.now sets unsets here))
