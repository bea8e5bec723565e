use Rattle.std.proofs.Common.{◌∙◌, ◌≤◌, arith, length, refl}
use Rattle.explorer.proofs.RowLemmas.{here_is, state_cells, state_long}
use Rattle.explorer.proofs.search.Search.here.Goals as goal

pub slice_bounds-stand-count : goal.slice_bounds-stand-count
slice_bounds-stand-count c = state_long c.args.self.now c.args.number c.requires c.row-row.result.now c.row-row.ensures

pub slice_bounds-stand-start : goal.slice_bounds-stand-start
slice_bounds-stand-start c = state_long c.args.self.now c.args.number c.requires c.row-row.result.now c.row-row.ensures

pub bounds-row-1 : goal.bounds-row-1
bounds-row-1 c = let long : 2 ≤ length c.row-row.result.now = state_long c.args.self.now c.args.number c.requires c.row-row.result.now c.row-row.ensures in omega (arith, long)

pub bounds-row-1-2 : goal.bounds-row-1-2
bounds-row-1-2 c = let long : 2 ≤ length c.row-row.result.now = state_long c.args.self.now c.args.number c.requires c.row-row.result.now c.row-row.ensures in omega (arith, long)

pub firsts-requires : goal.firsts-requires
firsts-requires c = state_cells c.args.self.now c.args.number c.requires c.row-row.result.now c.row-row.ensures c.stand.new.self.cells.items c.in_ok-stand.ensures.cells

pub bounds-row-0 : goal.bounds-row-0
bounds-row-0 c = let long : 2 ≤ length c.row-row.result.now = state_long c.args.self.now c.args.number c.requires c.row-row.result.now c.row-row.ensures in omega (arith, long)

pub returns-clause-here : goal.returns-clause-here
returns-clause-here c = λ question done more standings by states there.
    here_is question done more c.args.self.now standings by states c.args.number there c.row-row.result.now c.row-row.ensures _ refl c.in_ok-stand.ensures.cells c.in_ok-stand.ensures.met c.in_ok-stand.ensures.dead
    (c.stand.ensures.notes ∙ c.new-course.ensures.notes) c.in_ok-firsts.ensures
