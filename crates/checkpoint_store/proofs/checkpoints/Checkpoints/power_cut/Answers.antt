use Rattle.record_file.proofs.CutLemmas.{cut_leaves}
use Rattle.checkpoint_store.specs.Files.{HasCheckpoint}
use Rattle.checkpoint_store.specs.declared.stable.Stable.{Stable}
use Rattle.checkpoint_store.proofs.checkpoints.Checkpoints.power_cut.Goals as goal

pub returns-clause-left : goal.returns-clause-left
returns-clause-left g c =
    rw (← c.self.view_is) (λ has. record { leaves = cut_leaves (λ image. (stable : Stable) × HasCheckpoint image stable) _ _ _ c.power_cut.ensures.disk has.leaves })
