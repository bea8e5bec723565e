use Rattle.std.proofs.Common.{◌∙◌, rules}
use Rattle.visibility_point.proofs.Least.{items_again, visible_before}
use Rattle.visibility_point.proofs.point.visible.Goals as goal

pub returns-in-Some-clause-point : goal.returns-in-Some-clause-point
returns-in-Some-clause-point c =
    (search rules) ∙ visible_before c.args.log.now.entries c.args.slots.now c.in-Some.slot _ c.in-Some.ensures (items_again c.args.slots.now.slots)

pub returns-in-Some-clause-any_order : goal.returns-in-Some-clause-any_order
returns-in-Some-clause-any_order c = λ listed same.
    (search rules) ∙ visible_before c.args.log.now.entries c.args.slots.now c.in-Some.slot listed c.in-Some.ensures same
