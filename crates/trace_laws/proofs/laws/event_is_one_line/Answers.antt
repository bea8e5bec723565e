use Rattle.trace_laws.proofs.CommandInLine.{event_is_one_line}
use Rattle.trace_laws.proofs.laws.event_is_one_line.Goals as goal

pub returns : goal.returns
returns c = event_is_one_line
