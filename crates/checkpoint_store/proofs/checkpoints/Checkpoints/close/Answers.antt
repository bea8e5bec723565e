use Rattle.checkpoint_store.proofs.DiskLemmas.{open_left}
use Rattle.checkpoint_store.proofs.checkpoints.Checkpoints.close.Goals as goal

pub returns-clause-left : goal.returns-clause-left
returns-clause-left g c = rw (← c.self.view_is, c.close.ensures.disk) (λ is_open. open_left _ is_open)
