use Rattle.record_file.proofs.file.RecordFile.open.Goals as goal

pub returns-in-Ok-clause-only : goal.returns-in-Ok-clause-only
returns-in-Ok-clause-only g c = rw c.unopened-file.ensures at c.in-Ok.ensures.only

pub returns-in-Ok-clause-calls : goal.returns-in-Ok-clause-calls
returns-in-Ok-clause-calls g c = rw c.unopened-file.ensures at c.in-Ok.ensures.calls
