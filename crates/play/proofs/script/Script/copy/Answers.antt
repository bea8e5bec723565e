use Rattle.play.proofs.ScriptLemmas.{lines_copied}
use Rattle.play.proofs.script.Script.copy.Goals as goal

pub loop-line-preserved : goal.loop-line-preserved
loop-line-preserved c =
    rw c.in_ok-push.ensures.items (lines_copied _ _ c.loop-line.line-index c.in_ok-try_clone.field-0 c.line-item.result c.loop-line.invariant c.loop-line-test.true c.line-item.is c.in_ok-try_clone.ensures)
