use Rattle.std.proofs.Common.{◌≡◌, Ok, length, ◌≤◌, rules}
use Rattle.std.proofs.lemmas.Result.{err_from_is_err_and}
use Rattle.fault_script.specs.Script.{script}
use Rattle.set_program.proofs.EndLemmas.{read_stops, was_read}
use Rattle.trace_laws.proofs.ScriptSaid.{script_said}
use Rattle.set_program.proofs.ThreadsLemmas.{script_can_run}
use Rattle.set_program.proofs.asking.source_script.Goals as goal

pub returns-in_err-bytes-clause-reads : goal.returns-in_err-bytes-clause-reads
returns-in_err-bytes-clause-reads g c =
    let p = err_from_is_err_and c.from_residual.result c.from_residual.ensures.1 in
    rw (p.1, p.2) (read_stops (g.S.Source.left c.args.source.now) (g.S.Source.left c.read_all.new.source) (g.K.Sink.held c.args.sink.now) c.in_err-bytes.field-0.0 c.in_err-bytes.ensures.bytes)

pub returns-in-Ok-clause-reads : goal.returns-in-Ok-clause-reads
returns-in-Ok-clause-reads g c =
    let within : length c.in_ok-bytes.bytes.items ≤ 8388608 = search rules in
    let read : script c.in_ok-bytes.bytes.items ≡ Ok c.in-Ok.script = search rules in
    (c.in_ok-bytes.bytes.items, was_read (g.S.Source.left c.args.source.now) (g.S.Source.left c.read_all.new.source) c.in_ok-bytes.bytes c.in_ok-bytes.ensures.bytes within, read)

pub returns-in-Ok-clause-fits : goal.returns-in-Ok-clause-fits
returns-in-Ok-clause-fits g c = script_can_run _ c.in-Ok.script c.in-Ok.ensures.ok c.in-Ok.ensures.fits

pub returns-in-Ok-clause-said : goal.returns-in-Ok-clause-said
returns-in-Ok-clause-said g c = script_said _ c.in-Ok.script c.in-Ok.ensures.ok
