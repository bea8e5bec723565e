use Rattle.trace_laws.proofs.LinesAgain.{header_again}
use Rattle.trace_laws.proofs.laws.header_is_read_back.Goals as goal

pub returns : goal.returns
returns c = header_again
