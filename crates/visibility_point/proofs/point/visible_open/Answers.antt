use Rattle.std.proofs.Common.{◌∙◌}
use Rattle.visibility_point.proofs.Least.{items_again, visible_before}
use Rattle.visibility_point.proofs.point.visible_open.Goals as goal

pub returns : goal.returns
returns c = c.last_before.ensures ∙ visible_before c.args.log.now.entries c.args.slots.now c.in-Some.slot _ c.in-Some.ensures (items_again c.args.slots.now.slots)
