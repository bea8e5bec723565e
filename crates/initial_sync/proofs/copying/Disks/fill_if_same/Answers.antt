use Rattle.initial_sync.proofs.RunLemmas.{failed_on}
use Rattle.initial_sync.proofs.copying.Disks.fill_if_same.Goals as goal

pub returns-in-Err-clause-goes : goal.returns-in-Err-clause-goes
returns-in-Err-clause-goes g c = failed_on _ _ _ c.in-Err.error _ _ _ _ _ c.from.ensures (c.in_ok-is_of.ensures.0 c.if-not-branch.false) c.in-Err.ensures.fills
