use Rattle.std.proofs.Common.{◌+◌, get_or, refl}
use Rattle.std.proofs.lemmas.Result.{err_from_is_err_and}
use Rattle.change_watch.proofs.AskLemmas.{stays_on}
use Rattle.change_watch.proofs.StillLemmas.{node_on, node_stops, still_all, still_first}
use Rattle.change_watch.proofs.following.ask_nodes.Goals as goal

pub loop-node-init : goal.loop-node-init
loop-node-init g c = still_first g.S.Stepper.sizes g.S.Stepper.known g.S.Stepper.stays g.S.Stepper.is_whole g.K.Sink.held g.K.Sink.faults g.K.Sink.steady g.S.Stepper.is_alone c.args.collection.now c.args.nodes.now c.args.stream.now.token c.args.set.now c.args.sink.now

pub loop-node-preserved : goal.loop-node-preserved
loop-node-preserved g c =
    node_on g.S.Stepper.sizes g.S.Stepper.known g.S.Stepper.stays g.S.Stepper.is_whole g.K.Sink.held g.K.Sink.faults g.K.Sink.steady g.S.Stepper.is_alone c.args.collection.now c.args.stream.now.token c.loop-node.stream.token c.ask_node.new.stream.token c.args.set.now c.loop-node.set c.ask_node.new.set c.args.sink.now c.loop-node.sink c.ask_node.new.sink
    c.args.nodes.now c.loop-node.node-index (get_or c.args.nodes.now c.loop-node.node-index 0) c.loop-node-test.true refl c.loop-node.invariant g.met.S.Stepper.stays_on (c.loop-node.node-index + 1) refl c.in_ok-ask_node.ensures.asks c.ask_node.ensures.sizes c.ask_node.ensures.stays
    (λ was. c.in_ok-ask_node.ensures.whole was (λ same. cc same)) c.ask_node.ensures.cause.later (λ steady. (c.ask_node.ensures.steady steady).0)

pub returns-in_err-ask_node-clause-asks : goal.returns-in_err-ask_node-clause-asks
returns-in_err-ask_node-clause-asks g c =
    let p = err_from_is_err_and c.from_residual.result c.from_residual.ensures.1 in
    rw (p.1, p.2) (node_stops g.S.Stepper.sizes g.S.Stepper.known g.S.Stepper.stays g.S.Stepper.is_whole g.K.Sink.held g.K.Sink.faults g.K.Sink.steady g.S.Stepper.is_alone c.args.collection.now c.args.stream.now.token c.loop-node.stream.token c.ask_node.new.stream.token c.args.set.now c.loop-node.set c.ask_node.new.set c.args.sink.now c.loop-node.sink c.ask_node.new.sink
    c.args.nodes.now c.loop-node.node-index (get_or c.args.nodes.now c.loop-node.node-index 0) c.loop-node-test.true refl c.loop-node.invariant c.in_err-ask_node.field-0.0 c.in_err-ask_node.ensures.asks)

pub returns-in_err-ask_node-clause-stays : goal.returns-in_err-ask_node-clause-stays
returns-in_err-ask_node-clause-stays g c = stays_on g.S.Stepper.stays g.met.S.Stepper.stays_on c.args.set.now c.loop-node.set c.ask_node.new.set c.loop-node.invariant.stays_so c.ask_node.ensures.stays

pub returns-clause-asks : goal.returns-clause-asks
returns-clause-asks g c =
    still_all g.S.Stepper.sizes g.S.Stepper.known g.S.Stepper.stays g.S.Stepper.is_whole g.K.Sink.held g.K.Sink.faults g.K.Sink.steady g.S.Stepper.is_alone c.args.collection.now c.args.stream.now.token c.loop-node.stream.token c.args.nodes.now c.loop-node.node-index c.args.set.now c.loop-node.set c.args.sink.now c.loop-node.sink c.loop-node-test.false c.loop-node.invariant
