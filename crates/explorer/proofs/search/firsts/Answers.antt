use Rattle.std.proofs.Common.{◌≤◌, List, ℕ, ap, arith, get_or, length}
use Rattle.explore_steps.specs.Tables.{Tables, tables_of}
use Rattle.explorer.proofs.FirstLemmas.{all_added, cell_at, more_added}
use Rattle.explorer.proofs.search.firsts.Goals as goal

pub live-requires : goal.live-requires
live-requires c =
    let read : List ℕ = c.deref-cell-items.result.now in
    let place : ℕ = c.loop-cell.cell-index in
    c.requires place (get_or read place 0) (cell_at read c.args.course.now.cells.items place c.deref-cell-items.ensures.value c.loop-cell-test.true)

pub loop-cell-preserved : goal.loop-cell-preserved
loop-cell-preserved c =
    let tables : Tables = tables_of c.args.steps.now in
    let cells : List ℕ = c.args.course.now.cells.items in
    let read : List ℕ = c.deref-cell-items.result.now in
    let place : ℕ = c.loop-cell.cell-index in
    let there = cell_at read cells place c.deref-cell-items.ensures.value c.loop-cell-test.true in
    more_added tables cells place c.loop-cell.firsts.items c.add_live.new.firsts.items (get_or read place 0) c.live.result.now there (c.requires place (get_or read place 0) there) c.live.ensures
    c.in_ok-add_live.ensures c.loop-cell.invariant

pub returns : goal.returns
returns c =
    let cells : List ℕ = c.args.course.now.cells.items in
    let past : length cells ≤ c.loop-cell.cell-index = omega (arith, ap length c.deref-cell-items.ensures.value, c.loop-cell-test.false) in
    all_added (tables_of c.args.steps.now) cells c.loop-cell.cell-index c.args.course.now.dead c.loop-cell.firsts.items c.add_dead.new.firsts.items past c.loop-cell.invariant c.in_ok-add_dead.ensures
