use Rattle.initial_sync.proofs.MomentLemmas.{checkpoint_disk}
use Rattle.initial_sync.proofs.ReadingLemmas.{read_so, read_whole, reads_over}
use Rattle.initial_sync.proofs.reading.read.Goals as goal

pub open_both-requires-clause-checkpoints : goal.open_both-requires-clause-checkpoints
open_both-requires-clause-checkpoints g c = checkpoint_disk _ _ c.requires

pub returns-in-Ok-clause-standing : goal.returns-in-Ok-clause-standing
returns-in-Ok-clause-standing g c = read_so _ _ _ _ _ _ c.in-Ok.ensures.found

pub returns-in-Ok-clause-whole : goal.returns-in-Ok-clause-whole
returns-in-Ok-clause-whole g c = λ copy leave. read_whole copy _ _ _ _ _ _ c.in-Ok.ensures.found leave

pub returns-in-Ok-clause-read : goal.returns-in-Ok-clause-read
returns-in-Ok-clause-read g c =
    rw (c.close-journal.ensures.journal, c.close-journal.ensures.checkpoints) (reads_over _ _ _ _ c.requires c.in-Ok.ensures.opened)

pub returns-in-Err-clause-refused : goal.returns-in-Err-clause-refused
returns-in-Err-clause-refused g c = reads_over _ _ _ _ c.requires c.in-Err.ensures.refused
