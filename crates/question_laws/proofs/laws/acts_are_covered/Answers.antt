use Rattle.question_laws.proofs.Acts.{acts_covered}
use Rattle.question_laws.proofs.laws.acts_are_covered.Goals as goal

pub returns : goal.returns
returns c = acts_covered c.dead_messages_change_nothing.ensures.stays
