use Rattle.std.proofs.Common.{ℕ}
use Rattle.explore_words.specs.declared.question.Question.{Question}
use Rattle.explorer.specs.States.{HasMet, IsBack}
use Rattle.explorer.proofs.search.Search.path.Given as goal

abbrev pub invariant-loop-state : goal.invariant-loop-state
invariant-loop-state l = (question : Question) (done : ℕ) (met : HasMet question done l.self l.fn.last) → IsBack question done l.self l.fn.last met l.state l.doings.items

abbrev pub decreases-loop-state : goal.decreases-loop-state
decreases-loop-state l = l.state
