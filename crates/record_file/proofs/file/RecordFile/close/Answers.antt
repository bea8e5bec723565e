use Rattle.record_file.proofs.AppendLemmas.{open_left}
use Rattle.record_file.proofs.file.RecordFile.close.Goals as goal

pub returns-clause-left : goal.returns-clause-left
returns-clause-left g c = rw (← c.self.view_is) (λ is_open. open_left _ is_open)
