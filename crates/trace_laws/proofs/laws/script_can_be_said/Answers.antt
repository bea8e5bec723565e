use Rattle.trace_laws.proofs.ScriptSaid.{script_said}
use Rattle.trace_laws.proofs.laws.script_can_be_said.Goals as goal

pub returns : goal.returns
returns c = script_said
