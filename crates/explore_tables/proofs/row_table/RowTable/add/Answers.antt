use Rattle.std.proofs.Common.{arith}
use Rattle.explore_tables.proofs.RowLemmas.{rows_added, whole_more}
use Rattle.explore_tables.proofs.row_table.RowTable.add.Goals as goal

pub invariant_of-self-in_err-add : goal.invariant_of-self-in_err-add
invariant_of-self-in_err-add c =
    whole_more c.self.inside.width c.self.inside.count c.self.inside.index c.add.new.self c.self.inside.numbers.items c.args.row.now c.extend_from_slice.new.self.items c.args.self.now
    c.self.invariant c.self.view_is c.requires.width c.requires.few c.in_ok-extend_from_slice.ensures.items (omega (arith, c.in_err-add.ensures))

pub invariant_of-self-2 : goal.invariant_of-self-2
invariant_of-self-2 c =
    whole_more c.self.inside.width c.self.inside.count c.self.inside.index c.add.new.self c.self.inside.numbers.items c.args.row.now c.extend_from_slice.new.self.items c.args.self.now
    c.self.invariant c.self.view_is c.requires.width c.requires.few c.in_ok-extend_from_slice.ensures.items (omega (arith, c.in_ok-add.ensures))

pub returns : goal.returns
returns c =
    rows_added c.self.inside.width c.self.inside.count c.self.inside.numbers.items c.args.row.now c.extend_from_slice.new.self.items c.args.self.now
    c.self.invariant.whole c.self.view_is c.requires.width c.in_ok-extend_from_slice.ensures.items
