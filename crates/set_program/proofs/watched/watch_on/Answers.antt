use Rattle.std.proofs.lemmas.Result.{err_from_is_err_and}
use Rattle.set_program.proofs.AfterScriptLemmas.{went_by}
use Rattle.set_program.proofs.WatchedLemmas.{watch_stops}
use Rattle.set_program.proofs.watched.watch_on.Goals as goal

pub returns-in_err-follow-clause-watches : goal.returns-in_err-follow-clause-watches
returns-in_err-follow-clause-watches g c =
    let p = err_from_is_err_and c.from_residual.result c.from_residual.ensures.1 in
    rw (p.1, p.2) (watch_stops c.args.watch.now c.args.world.now.sizes c.args.world.now.history c.follow.new.set.history (g.K.Sink.held c.args.sink.now) (g.K.Sink.held c.follow.new.sink) c.in_err-follow.field-0.0 c.in_err-follow.ensures.follows)

pub returns-in_err-follow-clause-went : goal.returns-in_err-follow-clause-went
returns-in_err-follow-clause-went g c = went_by g.D.Disk.state c.args.world.now c.follow.new.set c.follow.ensures.stays

pub returns-clause-went : goal.returns-clause-went
returns-clause-went g c = went_by g.D.Disk.state c.args.world.now c.follow.new.set c.follow.ensures.stays
