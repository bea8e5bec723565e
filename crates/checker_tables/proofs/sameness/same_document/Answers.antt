use Rattle.checker_tables.proofs.SameLemmas.{document_tested}
use Rattle.checker_tables.proofs.sameness.same_document.Goals as goal

pub returns : goal.returns
returns c = document_tested c.args.one.now c.args.other.now c.eq.result c.eq.ensures
