use Rattle.std.proofs.Common.{sym, arith}
use Rattle.bson_doc.proofs.DigitLemmas.{length-decimal}
use Rattle.bson_doc.proofs.sizes.digits.Goals as goal

pub loop-left-init : goal.loop-left-init
loop-left-init c = (63, omega arith, omega arith, sym (length-decimal c.args.number))
