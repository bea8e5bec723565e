use Rattle.linear_read.proofs.Going.{asked}
use Rattle.linear_read.proofs.asking.ask.Goals as goal

pub returns-clause-went : goal.returns-clause-went
returns-clause-went g c =
    asked g.S.Stepper.is_alone g.S.Stepper.sizes g.S.Stepper.known g.S.Stepper.own g.S.Stepper.stays g.S.Stepper.is_whole c.args.set.now c.step.new.self c.args.command c.step.result g.met.S.Stepper.stays_on
    c.step.ensures.step c.step.ensures.err c.step.ensures.own c.step.ensures.idle c.step.ensures.full c.step.ensures.sizes c.step.ensures.stays c.step.ensures.whole c.step.ensures.defined
