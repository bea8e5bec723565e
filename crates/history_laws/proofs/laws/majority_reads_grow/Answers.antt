use Rattle.history_laws.proofs.Growing.{checkpoints_shown, majority_reads_grow}
use Rattle.history_laws.proofs.laws.majority_reads_grow.Goals as goal

pub returns-clause-grow : goal.returns-clause-grow
returns-clause-grow c = λ sizes events are is. majority_reads_grow sizes events are is (c.safe.ensures sizes events are is) (c.rollback_kept.ensures sizes events are is)

pub returns-clause-checkpoints : goal.returns-clause-checkpoints
returns-clause-checkpoints c = λ sizes events are is. checkpoints_shown sizes events are is (c.safe.ensures sizes events are is) (c.rollback_kept.ensures sizes events are is)
