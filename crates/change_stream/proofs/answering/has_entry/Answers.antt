use Rattle.std.proofs.Common.{◌≡◌, ◌∙◌, ◌-◌, subst, Some, None, length, slice_get}
use Rattle.change_stream.proofs.AnswerLemmas.{has_by_last, has_by_none}
use Rattle.change_stream.proofs.answering.has_entry.Goals as goal

pub returns-in-Some : goal.returns-in-Some
returns-in-Some c = c.eq.ensures ∙ has_by_last c.args.log.now c.args.at c.in-Some.last.now c.requires
    (subst (λ l. Some c.in-Some.last.now ≡ slice_get l (length l - 1)) c.up_to.ensures.cut c.in-Some.ensures.value)

pub returns-in-None : goal.returns-in-None
returns-in-None c = has_by_none c.args.log.now c.args.at
    (subst (λ l. None ≡ slice_get l (length l - 1)) c.up_to.ensures.cut c.in-None.ensures.value)
