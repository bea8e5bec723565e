use Rattle.checks_shared.proofs.closing.follows.Goals as goal

pub returns : goal.returns
returns g c =
    record { stays = g.met.S.Stepper.stays_on c.args.set.now c.next-first.new.set c.next-second.new.set c.next-first.ensures.stays c.next-second.ensures.stays }
