use Rattle.set_world.proofs.StepperLemmas.{each_adds_one, each_steps_alone, stays_whole}
use Rattle.set_world.proofs.WentLemmas.{went_answer}
use Rattle.set_world.proofs.stepper.WorldStepper.step.Goals as goal

pub returns-clause-step : goal.returns-clause-step
returns-clause-step g c =
    each_steps_alone g.D.Disk.state c.args.self.now c.step-answer.new.self c.args.line c.args.command.now c.step-answer.result c.step-answer.ensures.step

pub returns-clause-own : goal.returns-clause-own
returns-clause-own g c =
    each_adds_one g.D.Disk.state c.args.self.now c.step-answer.new.self c.args.line c.args.command.now c.step-answer.result c.step-answer.ensures.step

pub returns-clause-stays : goal.returns-clause-stays
returns-clause-stays g c begun went =
    went_answer g.D.Disk.state begun c.args.self.now c.step-answer.new.self c.args.line c.args.command.now c.step-answer.result went c.step-answer.ensures.step c.step-answer.ensures.err c.step-answer.ensures.sizes c.step-answer.ensures.opened
    c.step-answer.ensures.whole c.step-answer.ensures.unused c.requires.command c.recall_run.ensures.count

pub returns-clause-whole : goal.returns-clause-whole
returns-clause-whole g c =
    stays_whole c.args.self.now c.step-answer.new.self c.step-answer.result c.step-answer.ensures.whole c.step-answer.ensures.untouched
