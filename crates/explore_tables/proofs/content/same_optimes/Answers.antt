use Rattle.checker_tables.proofs.SameLemmas.{optimes_tested}
use Rattle.explore_tables.proofs.content.same_optimes.Goals as goal

pub returns : goal.returns
returns c = optimes_tested c.args.one.now c.args.other.now c.eq.result c.eq.ensures
