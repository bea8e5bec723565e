use Rattle.trace_laws.proofs.LinesAgain.{all_again}
use Rattle.trace_laws.proofs.laws.command_is_read_back.Goals as goal

pub returns : goal.returns
returns c = all_again
