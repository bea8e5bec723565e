use Rattle.checker_tables.proofs.SameLemmas.{value_tested}
use Rattle.checker_tables.proofs.sameness.same_value.Goals as goal

pub returns : goal.returns
returns c = value_tested c.args.one.now c.args.other.now c.eq.result c.eq.ensures
