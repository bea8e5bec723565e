use Rattle.std.proofs.Common.{drop}
use Rattle.change_watch.proofs.StillLemmas.{StillAsks}
use Rattle.change_watch.proofs.following.ask_nodes.Given as goal

abbrev pub invariant-loop-node : goal.invariant-loop-node
invariant-loop-node g l =
    StillAsks g.S.Stepper.sizes g.S.Stepper.known g.S.Stepper.stays g.S.Stepper.is_whole g.K.Sink.held g.K.Sink.faults g.K.Sink.steady g.S.Stepper.is_alone l.collection l.nodes (drop l.node-index l.nodes) l.initial.stream.token l.stream.token l.initial.set l.set l.initial.sink l.sink
