use Rattle.play.proofs.ScriptLemmas.{feeds_written}
use Rattle.play.proofs.telling.write_opening.Goals as goal

pub loop-preserved : goal.loop-preserved
loop-preserved c = feeds_written c.loop.counter _ _ _ c.loop.invariant c.in_ok-push_str.ensures.bytes
