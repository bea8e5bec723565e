use Rattle.std.proofs.Common.{◌∙◌, ◌++◌, ◌∷◌, [], ap}
use Rattle.member_config.specs.declared.config.Member.{Member}
use Rattle.set_world.proofs.OpenLemmas.{members_more}
use Rattle.set_world.proofs.opening.first_config.Goals as goal

pub loop-number-preserved : goal.loop-number-preserved
loop-number-preserved c = members_more c.args.voters c.loop-number.number c.loop-number.list c.push.new.self c.loop-number.invariant (c.in_ok-push.ensures.ok ∙ ap (λ (m : Member). c.loop-number.list ++ m ∷ []) c.first_member.ensures)
