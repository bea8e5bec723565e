use Rattle.explore_steps.proofs.CourseLemmas.{dead_told}
use Rattle.explore_steps.proofs.course.Course.has_dead.Goals as goal

pub returns-then-self-2 : goal.returns-then-self-2
returns-then-self-2 c node messages sent is there alive =
    dead_told c.args.self.now.dead c.args.self.now.notes_dead c.is_dead.result _ c.if-self.false c.if-self-2.true (c.is_dead.ensures node messages sent is there alive)
