use Rattle.task_words.proofs.WordLemmas.{few_words}
use Rattle.task_words.proofs.words.watch_task.Goals as goal

pub returns-in_default-clause-asked : goal.returns-in_default-clause-asked
returns-in_default-clause-asked c = few_words c.args.words.now c.in_default.len_below
