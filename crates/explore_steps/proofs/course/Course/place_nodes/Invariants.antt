use Rattle.std.proofs.Common.{◌≡◌, take}
use Rattle.explore_steps.specs.Courses.{of_nodes}
use Rattle.explore_steps.specs.Keeping.{Grows}
use Rattle.explore_steps.specs.Tables.{AreOf, tables_of}
use Rattle.explore_steps.proofs.course.Course.place_nodes.Given as goal

abbrev pub invariant-loop-node : goal.invariant-loop-node
invariant-loop-node l = record {
  grown : Grows l.fn.steps l.steps;
  same : l.self ≡ record l.fn.self { cells = l.self.cells };
  placed : AreOf (tables_of l.steps) l.self.cells.items (of_nodes (take l.node-index l.node-items));
}
