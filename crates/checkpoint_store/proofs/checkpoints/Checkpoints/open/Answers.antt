use Rattle.checkpoint_store.proofs.checkpoints.Checkpoints.open.Goals as goal

pub returns-in-Ok-clause-calls : goal.returns-in-Ok-clause-calls
returns-in-Ok-clause-calls g c = rw c.unopened.ensures at c.in-Ok.ensures.calls
