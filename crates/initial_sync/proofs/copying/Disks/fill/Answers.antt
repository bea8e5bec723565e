use Rattle.initial_sync.proofs.RunLemmas.{fills_failed}
use Rattle.initial_sync.proofs.copying.Disks.fill.Goals as goal

pub returns-in-Err-clause-fills : goal.returns-in-Err-clause-fills
returns-in-Err-clause-fills g c = λ items rest same. fills_failed _ _ items _ _ _ _ (λ done. cc) c.requires.checkpoints same (c.in-Err.ensures.any_moment items rest)
