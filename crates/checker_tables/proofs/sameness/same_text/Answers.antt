use Rattle.checker_tables.proofs.SameLemmas.{text_tested}
use Rattle.checker_tables.proofs.sameness.same_text.Goals as goal

pub returns : goal.returns
returns c = text_tested c.args.one.now c.args.other.now c.eq.result c.eq.ensures
