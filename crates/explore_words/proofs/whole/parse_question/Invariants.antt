use Rattle.std.proofs.Common.{length}
use Rattle.explore_words.proofs.QuestionRead.{ReadSoFar}
use Rattle.explore_words.proofs.whole.parse_question.Given as goal

abbrev pub invariant-loop-rest : goal.invariant-loop-rest
invariant-loop-rest l = ReadSoFar l.bytes l.reading l.number l.rest

abbrev pub decreases-loop-rest : goal.decreases-loop-rest
decreases-loop-rest l = length l.rest
