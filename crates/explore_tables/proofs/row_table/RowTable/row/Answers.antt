use Rattle.std.proofs.Common.{◌∙◌, ◌*◌, ap, sym, List, ℕ, Some, take, drop}
use Rattle.explore_tables.proofs.RowLemmas.{row_there, row_within}
use Rattle.explore_tables.proofs.row_table.RowTable.row.Goals as goal

pub part-requires : goal.part-requires
part-requires c =
    rw c.deref.ensures.value
    (row_within c.self.inside.width c.self.inside.count c.self.inside.index c.args.number c.self.inside.numbers.items c.args.self.now c.self.invariant c.self.view_is c.requires)

pub returns : goal.returns
returns c =
    row_there c.self.inside.width c.self.inside.count c.args.number c.self.inside.numbers.items c.args.self.now c.self.view_is c.requires
    ∙ ap (λ (xs : List ℕ). Some (take c.self.inside.width (drop (c.args.number * c.self.inside.width) xs))) (sym c.deref.ensures.value)
    ∙ ap Some (sym c.part.ensures)
