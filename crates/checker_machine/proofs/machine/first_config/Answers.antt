use Rattle.std.proofs.Common.{◌∙◌, ◌++◌, ◌∷◌, [], ap, refl}
use Rattle.member_config.specs.declared.config.Member.{Member}
use Rattle.member_config.specs.Config.{first_member, members_from}
use Rattle.checker_machine.proofs.OpenLemmas.{number_more}
use Rattle.checker_machine.proofs.machine.first_config.Goals as goal

pub loop-number-preserved : goal.loop-number-preserved
loop-number-preserved c =
    number_more (first_member c.args.voters) (members_from c.args.voters) (λ _. refl) (λ _ _. refl) c.loop-number.number c.loop-number.list c.push.new.self c.loop-number.invariant
    (c.in_ok-push.ensures.ok ∙ ap (λ (m : Member). c.loop-number.list ++ m ∷ []) c.first_member.ensures)
