use Rattle.std.proofs.Common.{rules}
use Rattle.shared_set.specs.Passes.{sizes_of, view}
use Rattle.shared_set.proofs.CallerLemmas.{each_adds_one, each_full, each_idles, each_keeps, each_learns, each_steps_once}
use Rattle.shared_set.proofs.caller.CallerStepper.step.Goals as goal

pub returns-clause-step : goal.returns-clause-step
returns-clause-step g c =
    rw c.reply_in.ensures (each_steps_once (sizes_of c.args.self.now.set.now) (view c.args.self.now.pass.now) (view c.step-answer.new.pass) c.args.line c.args.command.now c.step-answer.result (search rules))

pub returns-clause-err : goal.returns-clause-err
returns-clause-err g c =
    rw c.reply_in.ensures (each_learns (sizes_of c.args.self.now.set.now) (view c.args.self.now.pass.now) (view c.step-answer.new.pass) c.step-answer.result (search rules))

pub returns-clause-own : goal.returns-clause-own
returns-clause-own g c =
    rw c.reply_in.ensures (each_adds_one (sizes_of c.args.self.now.set.now) (view c.args.self.now.pass.now) (view c.step-answer.new.pass) c.args.line c.args.command.now c.step-answer.result (search rules))

pub returns-clause-idle : goal.returns-clause-idle
returns-clause-idle g c =
    rw c.reply_in.ensures (each_idles (sizes_of c.args.self.now.set.now) (view c.args.self.now.pass.now) (view c.step-answer.new.pass) c.step-answer.result (search rules))

pub returns-clause-full : goal.returns-clause-full
returns-clause-full g c =
    rw c.reply_in.ensures (each_full (sizes_of c.args.self.now.set.now) (view c.args.self.now.pass.now) (view c.step-answer.new.pass) c.step-answer.result (search rules))

pub returns-clause-stays : goal.returns-clause-stays
returns-clause-stays g c = (
  search rules,
  search rules,
  each_keeps (sizes_of c.args.self.now.set.now) (view c.args.self.now.pass.now) (view c.step-answer.new.pass) c.args.line c.args.command.now c.step-answer.result (search rules) (search rules),
)
