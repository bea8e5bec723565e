use Rattle.change_stream.proofs.AnswerLemmas.{token_is}
use Rattle.change_stream.proofs.answering.token_of_last.Goals as goal

pub returns-in-Some : goal.returns-in-Some
returns-in-Some c = token_is c.args.token c.args.entries.now c.in-Some.last.now c.in-Some.ensures.value
