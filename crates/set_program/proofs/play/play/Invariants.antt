use Rattle.std.proofs.Common.{length}
use Rattle.set_program.proofs.PlayLemmas.{PlayedUpTo}
use Rattle.set_program.proofs.play.play.Given as goal

abbrev pub decreases-loop-part : goal.decreases-loop-part
decreases-loop-part g l = length l.rest

abbrev pub invariant-loop-part : goal.invariant-loop-part
invariant-loop-part g l =
    PlayedUpTo g.K.Sink.held g.K.Sink.faults g.K.Sink.steady g.D.Disk.state l.fn.parts l.rest l.initial.sink l.sink l.fn.world l.world
