use Rattle.std.proofs.lemmas.Result.{err_from_is_err_and}
use Rattle.change_watch.proofs.LineLemmas.{nothing_put}
use Rattle.change_watch.proofs.putting.put_resume.Goals as goal

pub returns-in_err-set_resume-clause-puts : goal.returns-in_err-set_resume-clause-puts
returns-in_err-set_resume-clause-puts g c =
    let p = err_from_is_err_and c.from_residual.result c.from_residual.ensures.1 in rw (p.1, p.2) (nothing_put (g.K.Sink.held c.args.sink.now) _)
