use Rattle.std.proofs.lemmas.Result.{err_from_is_err_and}
use Rattle.set_program.proofs.AfterScriptLemmas.{went_by}
use Rattle.set_program.proofs.LinearLemmas.{linear_stops}
use Rattle.set_program.proofs.linearly.read_on.Goals as goal

pub returns-in_err-tell-clause-reads : goal.returns-in_err-tell-clause-reads
returns-in_err-tell-clause-reads g c =
    let p = err_from_is_err_and c.from_residual.result c.from_residual.ensures.1 in
    rw (p.1, p.2) (linear_stops c.args.linear.now c.args.world.now.sizes c.args.world.now.history c.tell.new.set.history (g.K.Sink.held c.args.sink.now) (g.K.Sink.held c.tell.new.sink) c.in_err-tell.field-0.0 c.in_err-tell.ensures.tells)

pub returns-in_err-tell-clause-went : goal.returns-in_err-tell-clause-went
returns-in_err-tell-clause-went g c = went_by g.D.Disk.state c.args.world.now c.tell.new.set c.tell.ensures.stays

pub returns-clause-went : goal.returns-clause-went
returns-clause-went g c = went_by g.D.Disk.state c.args.world.now c.tell.new.set c.tell.ensures.stays
