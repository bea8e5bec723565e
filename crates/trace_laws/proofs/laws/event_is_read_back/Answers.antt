use Rattle.trace_laws.proofs.LinesAgain.{event_again}
use Rattle.trace_laws.proofs.laws.event_is_read_back.Goals as goal

pub returns : goal.returns
returns c = event_again
