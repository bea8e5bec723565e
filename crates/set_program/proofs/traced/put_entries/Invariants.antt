use Rattle.std.proofs.Common.{length, take}
use Rattle.set_program.proofs.TracedLemmas.{PutEvents, bare}
use Rattle.set_program.proofs.traced.put_entries.Given as goal

abbrev pub invariant-loop-event : goal.invariant-loop-event
invariant-loop-event g l =
    PutEvents g.K.Sink.held g.K.Sink.faults g.K.Sink.steady l.initial.sink l.sink (take (length l.yielded) l.events) (take (length l.yielded) (bare l.replies))
