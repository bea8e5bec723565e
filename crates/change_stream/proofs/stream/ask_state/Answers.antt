use Rattle.change_stream.proofs.StepLemmas.{state_is_for}
use Rattle.change_stream.proofs.stream.ask_state.Goals as goal

pub step-requires-clause-command : goal.step-requires-clause-command
step-requires-clause-command g c = state_is_for c.args.node _ c.requires
