use Rattle.std.proofs.Common.{◌≡◌, take}
use Rattle.play.specs.History.{values_of}
use Rattle.play.proofs.history.History.copy.Given as goal

abbrev pub invariant-loop-event : goal.invariant-loop-event
invariant-loop-event l = values_of l.events.items ≡ values_of (take l.event-index l.event-items)
