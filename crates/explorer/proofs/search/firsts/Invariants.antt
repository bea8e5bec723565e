use Rattle.explore_steps.specs.Tables.{tables_of}
use Rattle.explorer.proofs.FirstLemmas.{AreAdded}
use Rattle.explorer.proofs.search.firsts.Given as goal

-- the messages of the first cells are listed
abbrev pub invariant-loop-cell : goal.invariant-loop-cell
invariant-loop-cell l = AreAdded (tables_of l.steps) l.course.cells.items l.cell-index l.firsts.items
