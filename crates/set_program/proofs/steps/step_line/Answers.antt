use Rattle.std.proofs.lemmas.Result.{err_from_is_err_and}
use Rattle.set_program.proofs.StepLemmas.{line_stepped, line_undone, line_untold}
use Rattle.set_program.proofs.steps.step_line.Goals as goal

pub returns-in_err-push-in-Ok : goal.returns-in_err-push-in-Ok
returns-in_err-push-in-Ok g c =
    let p = err_from_is_err_and c.from_residual.result c.from_residual.ensures.1 in
    rw p.1 (line_untold g.D.Disk.state c.args.line c.args.command c.in-Ok.reply c.args.world.now c.take.new.self c.in-Ok.ensures.step c.in-Ok.ensures.sizes)

pub returns-in_ok-push-in-Ok : goal.returns-in_ok-push-in-Ok
returns-in_ok-push-in-Ok g c =
    line_stepped g.D.Disk.state c.args.line c.args.command c.in-Ok.reply c.args.world.now c.take.new.self c.args.replies.now.items c.push.new.self.items
    c.in-Ok.ensures.step c.in-Ok.ensures.sizes c.in-Ok.ensures.whole c.in_ok-push-in-Ok.ensures.items

pub returns-in-Err-Memory : goal.returns-in-Err-Memory
returns-in-Err-Memory g c =
    line_undone g.D.Disk.state c.args.line c.args.command c.args.world.now c.take.new.self c.in-Err-Memory.ensures.err c.in-Err-Memory.ensures.sizes
