use Rattle.std.proofs.Common.{subst, sym}
use Rattle.checker_tables.specs.Touching.{EndAll, Ends}
use Rattle.checker_tables.proofs.touches.Touches.note.Goals as goal

pub returns : goal.returns
returns c = λ log are. c.with.ensures.placed log (subst (λ (e : Ends). EndAll log e) (sym c.take.ensures.value) are)
