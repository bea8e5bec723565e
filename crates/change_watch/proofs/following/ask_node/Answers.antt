use Rattle.std.proofs.Common.{[], ◌∷◌, ◌≤◌, arith, inr}
use Rattle.std.proofs.lemmas.Result.{err_from_is_err_and}
use Rattle.change_watch.proofs.AskLemmas.{no_such_node, stays_on}
use Rattle.change_watch.proofs.StillLemmas.{once_last, once_on, once_stops_all, still_breaks, still_none}
use Rattle.change_watch.proofs.following.ask_node.Goals as goal

pub returns-then-node-size-clause-asks : goal.returns-then-node-size-clause-asks
returns-then-node-size-clause-asks g c =
    let past : (g.S.Stepper.sizes c.args.set.now).nodes ≤ c.args.node = omega (arith, c.requires) in
    no_such_node g.S.Stepper.is_alone (g.S.Stepper.sizes c.args.set.now) c.args.collection.now c.args.stream.now.token c.args.node (g.S.Stepper.known c.args.set.now) (g.K.Sink.held c.args.sink.now) past

pub loop-init : goal.loop-init
loop-init g c = still_none g.S.Stepper.sizes g.S.Stepper.known g.S.Stepper.stays g.S.Stepper.is_whole g.K.Sink.held g.K.Sink.faults g.K.Sink.steady g.S.Stepper.is_alone c.args.collection.now (c.args.node ∷ []) c.args.stream.now.token c.args.set.now c.args.sink.now

pub loop-preserved : goal.loop-preserved
loop-preserved g c =
    once_on g.S.Stepper.sizes g.S.Stepper.known g.S.Stepper.stays g.S.Stepper.is_whole g.K.Sink.held g.K.Sink.faults g.K.Sink.steady g.S.Stepper.is_alone c.args.collection.now c.args.stream.now.token c.loop.stream.token c.ask_once.new.stream.token c.args.set.now c.loop.set c.ask_once.new.set c.args.sink.now c.loop.sink c.ask_once.new.sink
    c.args.node c.loop.invariant g.met.S.Stepper.stays_on c.in_ok-ended.ended c.if-ended.false c.in_ok-ended.ensures.asks c.ask_once.ensures.sizes (inr c.ask_once.ensures.stays)
    (λ was. c.in_ok-ended.ensures.whole was (λ same. cc same)) c.ask_once.ensures.cause.later (λ steady. (c.ask_once.ensures.steady steady).0)

pub returns-then-ended-clause-asks : goal.returns-then-ended-clause-asks
returns-then-ended-clause-asks g c =
    once_last g.S.Stepper.sizes g.S.Stepper.known g.S.Stepper.stays g.S.Stepper.is_whole g.K.Sink.held g.K.Sink.faults g.K.Sink.steady g.S.Stepper.is_alone c.args.collection.now c.args.stream.now.token c.loop.stream.token c.ask_once.new.stream.token c.args.set.now c.loop.set c.ask_once.new.set c.args.sink.now c.loop.sink c.ask_once.new.sink
    c.args.node c.loop.invariant c.in_ok-ended.ended c.if-ended.true c.in_ok-ended.ensures.asks

pub returns-then-ended-clause-stays : goal.returns-then-ended-clause-stays
returns-then-ended-clause-stays g c = stays_on g.S.Stepper.stays g.met.S.Stepper.stays_on c.args.set.now c.loop.set c.ask_once.new.set c.loop.invariant.stays_so (inr c.ask_once.ensures.stays)

pub returns-in_err-ended-clause-asks : goal.returns-in_err-ended-clause-asks
returns-in_err-ended-clause-asks g c =
    let p = err_from_is_err_and c.from_residual.result c.from_residual.ensures.1 in
    rw (p.1, p.2) (once_stops_all g.S.Stepper.sizes g.S.Stepper.known g.S.Stepper.stays g.S.Stepper.is_whole g.K.Sink.held g.K.Sink.faults g.K.Sink.steady g.S.Stepper.is_alone c.args.collection.now c.args.stream.now.token c.loop.stream.token c.ask_once.new.stream.token c.args.set.now c.loop.set c.ask_once.new.set c.args.sink.now c.loop.sink c.ask_once.new.sink
    c.args.node c.loop.invariant c.in_err-ended.field-0.0 c.in_err-ended.ensures.asks)

pub returns-in_err-ended-clause-stays : goal.returns-in_err-ended-clause-stays
returns-in_err-ended-clause-stays g c = stays_on g.S.Stepper.stays g.met.S.Stepper.stays_on c.args.set.now c.loop.set c.ask_once.new.set c.loop.invariant.stays_so (inr c.ask_once.ensures.stays)

pub returns-clause-asks : goal.returns-clause-asks
returns-clause-asks g c = still_breaks g.S.Stepper.sizes g.S.Stepper.known g.S.Stepper.stays g.S.Stepper.is_whole g.K.Sink.held g.K.Sink.faults g.K.Sink.steady g.S.Stepper.is_alone c.args.collection.now c.args.stream.now.token c.loop.stream.token c.args.node c.args.set.now c.loop.set c.args.sink.now c.loop.sink c.loop.invariant
