use Rattle.linear_read.proofs.Runs.{entries_written}
use Rattle.linear_read.proofs.laws.entries_are_written.Goals as goal

pub returns : goal.returns
returns c = λ sizes events are is. entries_written sizes events
