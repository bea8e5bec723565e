use Rattle.std.proofs.Common.{Err, ap}
use Rattle.checker_machine.specs.declared.machine.StepError.{StepError}
use Rattle.run_checker.proofs.TellingLemmas.{unfit}
use Rattle.run_checker.proofs.checking.step.Goals as goal

pub returns-in-Err-NoFit-clause-err : goal.returns-in-Err-NoFit-clause-err
returns-in-Err-NoFit-clause-err c =
    unfit c.args.line c.args.machine.now c.args.event.now c.requires.command c.recall_sound_write.ensures
    (c.in-Err-NoFit.ensures.none (ap (λ (e : StepError). Err e) c.in-Err-NoFit.field-0-is))
