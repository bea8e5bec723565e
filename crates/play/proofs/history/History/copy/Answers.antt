use Rattle.play.proofs.HistoryLemmas.{values-copied}
use Rattle.play.proofs.history.History.copy.Goals as goal

pub loop-event-preserved : goal.loop-event-preserved
loop-event-preserved c =
    rw c.in_ok-push.ensures.items (values-copied _ _ c.loop-event.event-index c.in_ok-try_clone.field-0 c.event-item.result c.loop-event.invariant c.loop-event-test.true c.event-item.is c.in_ok-try_clone.ensures)
