use Rattle.std.proofs.Common.{[], ◌∷◌}
use Rattle.change_watch.proofs.StillLemmas.{StillAsks}
use Rattle.change_watch.proofs.following.ask_node.Given as goal

abbrev pub invariant-loop : goal.invariant-loop
invariant-loop g l =
    StillAsks g.S.Stepper.sizes g.S.Stepper.known g.S.Stepper.stays g.S.Stepper.is_whole g.K.Sink.held g.K.Sink.faults g.K.Sink.steady g.S.Stepper.is_alone l.collection (l.node ∷ []) (l.node ∷ []) l.initial.stream.token l.stream.token l.initial.set l.set l.initial.sink l.sink
