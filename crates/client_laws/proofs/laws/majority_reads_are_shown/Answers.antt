use Rattle.client_laws.proofs.Shown.{majority_shown}
use Rattle.client_laws.proofs.laws.majority_reads_are_shown.Goals as goal

pub returns : goal.returns
returns c = λ sizes events are is. majority_shown sizes events (c.safe.ensures sizes events are is) (c.logs_rise.ensures sizes events are is) (c.leaders_keep.ensures sizes events are is)
    (c.entries_are_written.ensures sizes events are is)
    (c.entries_follow_zero.ensures sizes events are is) (c.winner_completeness.ensures sizes events are is)
