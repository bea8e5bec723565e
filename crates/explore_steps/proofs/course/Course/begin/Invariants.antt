use Rattle.std.proofs.Common.{take}
use Rattle.explore_steps.specs.Courses.{IsMoved, IsNoted, of_nodes, with_all}
use Rattle.explore_steps.specs.Keeping.{Grows}
use Rattle.explore_steps.specs.Tables.{tables_of}
use Rattle.explore_steps.proofs.course.Course.begin.Given as goal

abbrev pub invariant-loop-message : goal.invariant-loop-message
invariant-loop-message l = record {
  grown : Grows l.fn.steps l.steps;
  same : IsMoved l.fn.self l.self;
  noted : IsNoted (tables_of l.steps) l.self (with_all (of_nodes l.machine.nodes) (take l.message-index l.message-items));
}
