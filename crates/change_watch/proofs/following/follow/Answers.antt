use Rattle.std.proofs.Common.{Err, Ok, ap}
use Rattle.std.proofs.lemmas.Result.{err_from_is_err_and}
use Rattle.change_stream.specs.declared.stream.ChangeStream.{ChangeStream}
use Rattle.change_watch.proofs.FollowLemmas.{from_start, stop_stops, told_all, told_stop}
use Rattle.change_watch.proofs.following.follow.Goals as goal

pub returns-in-Ok-clause-follows : goal.returns-in-Ok-clause-follows
returns-in-Ok-clause-follows g c =
    told_all g.S.Stepper.is_alone (g.S.Stepper.sizes c.args.set.now) c.args.watch.now c.ask_nodes.new.stream.token (g.S.Stepper.known c.args.set.now) (g.S.Stepper.known c.ask_nodes.new.set)
    (g.K.Sink.held c.args.sink.now) (g.K.Sink.held c.ask_nodes.new.sink) (g.K.Sink.held c.put_resume.new.sink) c.put_resume.result
    (from_start g.S.Stepper.is_alone (g.S.Stepper.sizes c.args.set.now) c.args.watch.now c.ask_nodes.new.stream.token (g.S.Stepper.known c.args.set.now) (g.S.Stepper.known c.ask_nodes.new.set) c.open-stream.result.token c.as_slice-nodes.result.now (ap (λ (s : ChangeStream). s.token) c.open-stream.ensures) c.as_slice-nodes.ensures
    (g.K.Sink.held c.args.sink.now) (g.K.Sink.held c.ask_nodes.new.sink) (Ok tt) c.in-Ok.ensures.asks) c.put_resume.ensures.puts

pub returns-in_err-put_stop-in-Err-clause-follows : goal.returns-in_err-put_stop-in-Err-clause-follows
returns-in_err-put_stop-in-Err-clause-follows g c =
    let p = err_from_is_err_and c.from_residual.result c.from_residual.ensures.1 in
    rw (p.1, p.2) (stop_stops g.S.Stepper.is_alone (g.S.Stepper.sizes c.args.set.now) c.args.watch.now c.ask_nodes.new.stream.token (g.S.Stepper.known c.args.set.now) (g.S.Stepper.known c.ask_nodes.new.set) c.in-Err.stop c.in_err-put_stop-in-Err.field-0.0
    (g.K.Sink.held c.args.sink.now) (g.K.Sink.held c.ask_nodes.new.sink) (g.K.Sink.held c.put_stop.new.sink)
    (from_start g.S.Stepper.is_alone (g.S.Stepper.sizes c.args.set.now) c.args.watch.now c.ask_nodes.new.stream.token (g.S.Stepper.known c.args.set.now) (g.S.Stepper.known c.ask_nodes.new.set) c.open-stream.result.token c.as_slice-nodes.result.now (ap (λ (s : ChangeStream). s.token) c.open-stream.ensures) c.as_slice-nodes.ensures
    (g.K.Sink.held c.args.sink.now) (g.K.Sink.held c.ask_nodes.new.sink) (Err c.in-Err.stop) c.in-Err.ensures.asks) c.in_err-put_stop-in-Err.ensures.puts c.in_err-put_stop-in-Err.ensures.none)

pub returns-clause-follows : goal.returns-clause-follows
returns-clause-follows g c =
    told_stop g.S.Stepper.is_alone (g.S.Stepper.sizes c.args.set.now) c.args.watch.now c.ask_nodes.new.stream.token (g.S.Stepper.known c.args.set.now) (g.S.Stepper.known c.ask_nodes.new.set) c.in-Err.stop
    (g.K.Sink.held c.args.sink.now) (g.K.Sink.held c.ask_nodes.new.sink) (g.K.Sink.held c.put_stop.new.sink)
    (from_start g.S.Stepper.is_alone (g.S.Stepper.sizes c.args.set.now) c.args.watch.now c.ask_nodes.new.stream.token (g.S.Stepper.known c.args.set.now) (g.S.Stepper.known c.ask_nodes.new.set) c.open-stream.result.token c.as_slice-nodes.result.now (ap (λ (s : ChangeStream). s.token) c.open-stream.ensures) c.as_slice-nodes.ensures
    (g.K.Sink.held c.args.sink.now) (g.K.Sink.held c.ask_nodes.new.sink) (Err c.in-Err.stop) c.in-Err.ensures.asks) c.in_ok-put_stop-in-Err.ensures.puts
