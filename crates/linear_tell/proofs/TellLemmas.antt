-- The result of a linear read.
use Rattle.std.proofs.Common.{List}
use Rattle.std.specs.Prelude.{Bool, Result, Ok, Err, OnErr}
use Rattle.set_model.specs.declared.command.Event.{Event}
use Rattle.set_model.specs.Run.{Sizes}
use Rattle.linear_read.specs.declared.answer.LinearAnswer.{LinearAnswer}
use Rattle.linear_read.specs.declared.answer.LinearAnswer.TheVariants as answers
use Rattle.linear_words.specs.declared.asked.Linear.{Linear}
use Rattle.linear_tell.specs.Telling.{Answers, Breaks, Comes, told_of}

pub result_is : (alone : Bool) (sizes : Sizes) (linear : Linear) (old new : List Event) (answer : LinearAnswer) → Answers alone sizes linear old new answer → Comes alone sizes linear old new (told_of answer)
result_is alone sizes linear old new (answers.Found o) so = so
result_is alone sizes linear old new answers.Missing so = so
result_is alone sizes linear old new (answers.Refused why) so = so

pub breaks_off : {A E : Type 0} (alone : Bool) (sizes : Sizes) (linear : Linear) (old new : List Event) (result : Result A E) → Breaks alone sizes linear old new → OnErr result (Breaks alone sizes linear old new)
breaks_off alone sizes linear old new (Ok told) breaks = tt
breaks_off alone sizes linear old new (Err error) breaks = breaks
