use Rattle.trace_laws.proofs.CommandsSaid.{command_said}
use Rattle.trace_laws.proofs.laws.command_can_be_said.Goals as goal

pub returns : goal.returns
returns c = command_said
