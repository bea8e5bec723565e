use Rattle.std.proofs.Common.{◌∙◌, ◌++◌, ◌∷◌, [], ap, refl}
use Rattle.set_model.specs.Node.{Node, opening_node}
use Rattle.set_model.specs.World.{nodes_from}
use Rattle.checker_machine.proofs.OpenLemmas.{number_more}
use Rattle.checker_machine.proofs.machine.Machine.open.Goals as goal

pub loop-number-preserved : goal.loop-number-preserved
loop-number-preserved c =
    let first = c.in_ok-first.first in
    number_more (opening_node first) (nodes_from first) (λ _. refl) (λ _ _. refl) c.loop-number.number c.loop-number.opened.items c.push.new.self.items c.loop-number.invariant
    (c.in_ok-push.ensures.items ∙ ap (λ (n : Node). c.loop-number.opened.items ++ n ∷ []) c.in_ok-open.ensures)
