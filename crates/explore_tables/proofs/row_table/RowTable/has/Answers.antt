use Rattle.std.proofs.Common.{◌-◌, ◌∙◌, ap, arith, Some}
use Rattle.explore_tables.proofs.PlaceLemmas.{equal_lists}
use Rattle.explore_tables.proofs.RowLemmas.{rows_counted}
use Rattle.explore_tables.proofs.row_table.RowTable.has.Goals as goal

pub row-requires : goal.row-requires
row-requires c =
    omega (arith, c.loop-link.invariant, c.loop-link-test.true, c.self.invariant.found, rows_counted c.self.inside.width c.self.inside.count c.self.inside.numbers.items c.args.self.now c.self.view_is)

pub returns-then-eq : goal.returns-then-eq
returns-then-eq c = λ _.
    (c.loop-link.link - 1, c.row.ensures ∙ ap Some (equal_lists c.row.result.now c.args.row.now c.eq.result c.eq.ensures c.if-eq.true))
