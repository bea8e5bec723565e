use Rattle.std.proofs.Common.{take}
use Rattle.change_watch.proofs.LineLemmas.{PutChanges}
use Rattle.change_watch.proofs.putting.put_changes.Given as goal

abbrev pub invariant-loop-entry : goal.invariant-loop-entry
invariant-loop-entry g l = PutChanges g.K.Sink.held g.K.Sink.faults g.K.Sink.steady l.initial.sink l.sink l.collection (take l.entry-index l.entries)
