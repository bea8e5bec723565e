use Rattle.std.proofs.Common.{◌≡◌, ◌-◌, ◌∙◌, arith, subst, sym, List, ℕ, Some, slice_get}
use Rattle.explore_tables.proofs.PlaceLemmas.{equal_lists, list_at}
use Rattle.explore_tables.proofs.list_table.ListTable.find.Goals as goal

pub returns-then-eq : goal.returns-then-eq
returns-then-eq c =
    subst (λ (lists : List (List ℕ)). slice_get lists (c.loop-link.link - 1) ≡ Some c.args.list.now) c.self.view_is
    (list_at _ c.self.inside.lists.items _ c.index.result.now c.args.list.now (omega (arith, c.loop-link.invariant, c.self.invariant, c.loop-link-test.true)) c.index.ensures
    (sym c.as_slice.ensures.value ∙ equal_lists c.as_slice.result.now c.args.list.now c.eq.result c.eq.ensures c.if-eq.true))
