use Rattle.checker_tables.proofs.SameLemmas.{items_tested}
use Rattle.checker_tables.proofs.sameness.same_items.Goals as goal

pub returns : goal.returns
returns c = items_tested c.args.one.now c.args.other.now c.eq.result c.eq.ensures
