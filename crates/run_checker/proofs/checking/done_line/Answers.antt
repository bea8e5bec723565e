use Rattle.std.proofs.lemmas.Result.{err_from_is_err_and}
use Rattle.bson_doc.proofs.BindLemmas.{on_ok}
use Rattle.run_checker.proofs.TellingLemmas.{line_done, no_event, no_fit}
use Rattle.run_checker.proofs.checking.done_line.Goals as goal

pub returns-in_err-event-clause-err : goal.returns-in_err-event-clause-err
returns-in_err-event-clause-err c =
    let p = err_from_is_err_and c.from_residual.result c.from_residual.ensures.1 in
    rw (p.1, p.2) (no_event c.args.nodes c.args.machine.now c.args.line c.args.own.now c.in_err-event.field-0.0 c.in_err-event.ensures.event)

pub returns-clause-ok : goal.returns-clause-ok
returns-clause-ok c =
    on_ok c.step.result (line_done c.args.nodes c.args.machine.now c.args.line c.args.own.now c.in_ok-event.event c.in_ok-event.ensures.event c.step.new.machine _) c.step.ensures.ok

pub returns-clause-err : goal.returns-clause-err
returns-clause-err c = no_fit c.args.nodes c.args.machine.now c.args.line c.args.own.now c.in_ok-event.event c.in_ok-event.ensures.event c.step.result c.step.ensures.err
