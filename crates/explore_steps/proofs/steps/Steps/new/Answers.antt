use Rattle.std.proofs.Common.{◌∙◌, ap, length, refl}
use Rattle.explore_steps.proofs.Keeping.{kept_new}
use Rattle.explore_steps.proofs.steps.Steps.new.Goals as goal

pub returns : goal.returns
returns c = kept_new c.args.question.now _ refl (c.in_ok-lines_at.ensures.count ∙ ap length c.as_slice.ensures) (c.in_ok-lines_in.ensures.count ∙ ap length c.as_slice-2.ensures)
    (c.in_ok-sights.ensures.count ∙ ap length c.as_slice-3.ensures) c.in_ok-lines_at.ensures.none c.in_ok-lines_in.ensures.none c.in_ok-sights.ensures.none
    c.new-7.ensures c.new-8.ensures c.new-9.ensures
