use Rattle.std.proofs.Common.{◌≡◌, List, drop, length, take}
use Rattle.repl_msg.specs.declared.message.Message.{Message}
use Rattle.set_model.specs.World.{World}
use Rattle.explore_steps.specs.Courses.{AreCells, IsMoved, IsNoted, with_all}
use Rattle.explore_steps.specs.Keeping.{Grows}
use Rattle.explore_steps.specs.Tables.{AreNumbers, tables_of}
use Rattle.explore_steps.proofs.course.Course.add_from.Given as goal

abbrev pub invariant-loop-place : goal.invariant-loop-place
invariant-loop-place l = record {
  grown : Grows l.fn.steps l.steps;
  same : IsMoved l.fn.self l.self;
  count : length l.self.cells.items ≡ length l.fn.self.cells.items;
  cells : AreCells (tables_of l.steps) l.self.cells.items;
  adds : (messages : List Message) (world : World) → AreNumbers (tables_of l.fn.steps) (drop l.before l.fn.self.sent.items) messages
      → IsNoted (tables_of l.fn.steps) l.fn.self world → IsNoted (tables_of l.steps) l.self (with_all world (take l.place messages));
}
