use Rattle.explore_words.proofs.QuestionRead.{counted}
use Rattle.explore_words.proofs.whole.add_line.Goals as goal

pub returns-in-Ok-clause-few : goal.returns-in-Ok-clause-few
returns-in-Ok-clause-few c = counted c.args.number c.args.reading.now c.add_line.new.self c.args.line.now c.in-Ok.ensures
