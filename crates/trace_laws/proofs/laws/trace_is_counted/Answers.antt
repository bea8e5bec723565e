use Rattle.trace_laws.proofs.TraceAgain.{trace_counted}
use Rattle.trace_laws.proofs.laws.trace_is_counted.Goals as goal

pub returns : goal.returns
returns c = trace_counted
