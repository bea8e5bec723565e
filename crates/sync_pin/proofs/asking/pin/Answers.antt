use Rattle.std.proofs.Common.{Err, Ok}
use Rattle.std.proofs.lemmas.Result.{err_from_is_err_and}
use Rattle.sync_words.specs.declared.stop.SyncStop.TheVariants.{Memory}
use Rattle.sync_pin.proofs.AskLemmas.{pins_quiet, pins_stopped}
use Rattle.sync_pin.proofs.asking.pin.Goals as goal

pub returns-in-Ok-clause-pins : goal.returns-in-Ok-clause-pins
returns-in-Ok-clause-pins g c =
    pins_quiet (g.S.Stepper.sizes c.args.set.now) c.args.node (g.S.Stepper.known c.args.set.now) (g.S.Stepper.known c.ask.new.set) (g.K.Sink.held c.args.sink.now) (Ok c.in-Ok.pinned) (λ why is. cc is) c.in-Ok.ensures.asks

pub returns-in_err-put_refusal-in-Err-Refused-clause-pins : goal.returns-in_err-put_refusal-in-Err-Refused-clause-pins
returns-in_err-put_refusal-in-Err-Refused-clause-pins g c =
    let p = err_from_is_err_and c.from_residual.result c.from_residual.ensures.1 in
    rw (p.1, p.2) (pins_stopped (g.S.Stepper.sizes c.args.set.now) c.args.node (g.S.Stepper.known c.args.set.now) (g.S.Stepper.known c.ask.new.set) (g.K.Sink.held c.args.sink.now) (g.K.Sink.held c.put_refusal.new.sink)
    c.in-Err-Refused.why c.in_err-put_refusal-in-Err-Refused.field-0.0 (rw c.in-Err-Refused.field-0-is at c.in-Err-Refused.ensures.asks) c.in_err-put_refusal-in-Err-Refused.ensures.puts (λ is. c.in_err-put_refusal-in-Err-Refused.ensures.no_disk (cc is)))

pub returns-in_ok-put_refusal-in-Err-Refused-clause-pins : goal.returns-in_ok-put_refusal-in-Err-Refused-clause-pins
returns-in_ok-put_refusal-in-Err-Refused-clause-pins g c = ((rw c.in-Err-Refused.field-0-is at c.in-Err-Refused.ensures.asks), c.in_ok-put_refusal-in-Err-Refused.ensures.puts)

pub returns-in-Err-Memory-clause-pins : goal.returns-in-Err-Memory-clause-pins
returns-in-Err-Memory-clause-pins g c =
    pins_quiet (g.S.Stepper.sizes c.args.set.now) c.args.node (g.S.Stepper.known c.args.set.now) (g.S.Stepper.known c.ask.new.set) (g.K.Sink.held c.args.sink.now) (Err Memory) (λ why is. cc is) (rw c.in-Err-Memory.field-0-is at c.in-Err-Memory.ensures.asks)
