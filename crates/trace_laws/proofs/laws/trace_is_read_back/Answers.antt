use Rattle.trace_laws.proofs.TraceAgain.{trace_again}
use Rattle.trace_laws.proofs.laws.trace_is_read_back.Goals as goal

pub returns : goal.returns
returns c = trace_again
