use Rattle.change_stream.proofs.RunLaw.{stream_law}
use Rattle.change_stream.proofs.laws.stream_law.Goals as goal

pub returns : goal.returns
returns c = λ sizes events are is.
    stream_law sizes events (c.safe.ensures sizes events are is) (c.winner_completeness.ensures sizes events are is)
    (c.points_committed.ensures sizes events are is) (c.logs_rise.ensures sizes events are is)
