use Rattle.explore_tables.proofs.RowLemmas.{rows_counted}
use Rattle.explore_tables.proofs.row_table.RowTable.len.Goals as goal

pub returns : goal.returns
returns c = rows_counted c.self.inside.width c.self.inside.count c.self.inside.numbers.items c.args.self.now c.self.view_is
