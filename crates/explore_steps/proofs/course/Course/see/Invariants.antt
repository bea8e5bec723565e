use Rattle.std.proofs.Common.{◌≡◌, ◌≤◌, ◌-◌, length}
use Rattle.set_model.specs.World.{World}
use Rattle.question_laws.specs.Meeting.{unseen}
use Rattle.explore_steps.specs.Courses.{left_after}
use Rattle.explore_steps.specs.Keeping.{IsGrown}
use Rattle.explore_steps.specs.Reaching.{IsReachedBefore}
use Rattle.explore_steps.specs.Tables.{AreOf, tables_of}
use Rattle.explore_steps.proofs.course.Course.see.Given as goal

abbrev pub invariant-loop-self : goal.invariant-loop-self
invariant-loop-self l = record {
  same : l.self ≡ record l.fn.self { met = l.self.met };
  grown : IsGrown l.question l.fn.steps l.steps;
  met : l.self.met ≤ length l.question.wants;
  seen : (world : World) → IsReachedBefore 0 l.question world → AreOf (tables_of l.fn.steps) l.fn.self.cells.items world
      → unseen world (left_after l.question l.self.met) ≡ unseen world (left_after l.question l.fn.self.met);
}

abbrev pub decreases-loop-self : goal.decreases-loop-self
decreases-loop-self l = length l.wants - l.self.met
