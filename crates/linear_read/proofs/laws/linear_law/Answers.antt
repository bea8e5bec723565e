use Rattle.linear_read.proofs.LinearReads.{linear_law}
use Rattle.linear_read.proofs.laws.linear_law.Goals as goal

pub returns : goal.returns
returns c = λ sizes events are is.
    linear_law sizes events (c.safe.ensures sizes events are is) (c.logs_rise.ensures sizes events are is) (c.leaders_keep.ensures sizes events are is)
    (c.entries_are_written.ensures sizes events are is)
