use Rattle.trace_laws.proofs.ScriptSaid.{script_said}
use Rattle.set_program.proofs.ThreadsLemmas.{script_can_run}
use Rattle.set_program.proofs.asking.generated_script.Goals as goal

pub returns-in-Ok-clause-fits : goal.returns-in-Ok-clause-fits
returns-in-Ok-clause-fits c = script_can_run _ c.in-Ok.script c.in-Ok.ensures.ok c.in-Ok.ensures.fits

pub returns-in-Ok-clause-said : goal.returns-in-Ok-clause-said
returns-in-Ok-clause-said c = script_said _ c.in-Ok.script c.in-Ok.ensures.ok
