use Rattle.checks_shared.proofs.closing.steps.Goals as goal

pub returns : goal.returns
returns g c =
    record { stays = g.met.S.Stepper.stays_on c.args.set.now c.step-first.new.self c.step-second.new.self c.step-first.ensures.stays c.step-second.ensures.stays }
