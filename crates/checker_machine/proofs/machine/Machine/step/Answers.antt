use Rattle.std.proofs.Common.{◌≡◌, true, false, rules}
use Rattle.std.specs.Prelude.{is_some}
use Rattle.checker_machine.proofs.ActingLemmas.{acted_fits, left_fits_not}
use Rattle.checker_machine.proofs.machine.Machine.step.Goals as goal

pub returns-then-is_some-clause-none : goal.returns-then-is_some-clause-none
returns-then-is_some-clause-none c why fits =
    let some : is_some c.act.new.failed ≡ true = search rules in
    left_fits_not c.args.self.now c.args.event.now c.act.new.failed c.in_ok-answer.answer c.act.new.self c.in_ok-answer.ensures.answer some fits

pub returns-clause-fits : goal.returns-clause-fits
returns-clause-fits c =
    let none : is_some c.act.new.failed ≡ false = search rules in
    acted_fits c.args.self.now c.args.event.now c.act.new.failed c.in_ok-answer.answer c.act.new.self c.requires.event c.in_ok-answer.ensures.answer none
