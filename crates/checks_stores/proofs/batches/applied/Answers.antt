use Rattle.batch_applier.proofs.FreshLemmas.{fresh_batch}
use Rattle.checks_stores.proofs.batches.applied.Goals as goal

pub apply_batch-requires-clause-batch : goal.apply_batch-requires-clause-batch
apply_batch-requires-clause-batch g c κs within =
    rw c.deref.ensures.value (fresh_batch c.in_ok-store.store c.in_ok-entries.entries.items c.in_ok-store.ensures.empty c.in_ok-entries.ensures.each)
