use Rattle.std.proofs.Common.{ℕ, List}
use Rattle.record_file.specs.Records.{HasRecords}
use Rattle.record_file.proofs.CutLemmas.{cut_leaves}
use Rattle.record_file.proofs.file.RecordFile.power_cut.Goals as goal

pub returns-clause-left : goal.returns-clause-left
returns-clause-left g c =
    rw (← c.self.view_is) (λ has. record { leaves = cut_leaves (λ image. (records : List (List ℕ)) × HasRecords image records) _ _ _ c.power_cut.ensures has.leaves })
