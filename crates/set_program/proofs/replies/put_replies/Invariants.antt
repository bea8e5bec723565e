use Rattle.std.proofs.Common.{take}
use Rattle.set_program.proofs.PlayLemmas.{PutSome}
use Rattle.set_program.proofs.replies.put_replies.Given as goal

abbrev pub invariant-loop-line : goal.invariant-loop-line
invariant-loop-line g l = PutSome g.K.Sink.held g.K.Sink.faults g.K.Sink.steady l.initial.sink l.sink (take l.line-index l.replies)
