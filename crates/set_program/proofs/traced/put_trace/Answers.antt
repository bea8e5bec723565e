use Rattle.std.proofs.Common.{ap, length, subst, ◌∙◌, List}
use Rattle.std.specs.Prelude.{OnOk}
use Rattle.std.specs.List.{AllByRecursion}
use Rattle.std.proofs.lemmas.Result.{err_from_is_err_and}
use Rattle.run_checker.specs.Trace.{IsPlain}
use Rattle.set_model.specs.declared.command.Event.{Event}
use Rattle.set_program.proofs.TracedLemmas.{header_stops, told_long, trace_goes_on}
use Rattle.set_program.proofs.traced.put_trace.Goals as goal

pub put_entries-requires : goal.put_entries-requires
put_entries-requires g c =
    ap (λ (es : List Event). length es) c.history.ensures ∙ told_long c.args.world.now.sizes c.args.world.now.history c.args.replies.now c.requires.told

pub returns-in_err-put_header-clause-puts : goal.returns-in_err-put_header-clause-puts
returns-in_err-put_header-clause-puts g c =
    let p = err_from_is_err_and c.from_residual.result c.from_residual.ensures.1 in
    rw (p.1, p.2) (header_stops (g.K.Sink.held c.args.sink.now) (g.K.Sink.held c.put_header.new.sink) c.args.world.now c.args.sizes c.requires.sizes c.in_err-put_header.field-0.0
    c.in_err-put_header.ensures.puts)

pub returns-clause-puts : goal.returns-clause-puts
returns-clause-puts g c =
    trace_goes_on (g.K.Sink.held c.args.sink.now) (g.K.Sink.held c.put_entries.new.sink) c.args.world.now c.args.sizes c.requires.sizes (g.K.Sink.held c.put_header.new.sink) c.history.result.now c.args.replies.now
    c.put_entries.result c.history.ensures c.requires.told c.in_ok-put_header.ensures.puts c.put_entries.ensures.puts

pub returns-clause-plain : goal.returns-clause-plain
returns-clause-plain g c = subst (λ (es : List Event). OnOk c.put_entries.result (AllByRecursion IsPlain es)) c.history.ensures c.put_entries.ensures.plain
