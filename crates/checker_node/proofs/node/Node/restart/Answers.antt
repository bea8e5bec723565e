use Rattle.std.proofs.Common.{◌∙◌, ap, sym}
use Rattle.set_model.specs.Node.{Node}
use Rattle.checker_node.proofs.DiskLemmas.{of_answer, restart_done}
use Rattle.checker_node.proofs.node.Node.restart.Goals as goal

pub returns : goal.returns
returns c =
    of_answer c.recover.result _ _
    (λ answer does. restart_done c.args.self.now c.args.there c.args.failed.now c.stands.new.failed c.recover.new.failed answer c.settle_doubt.new.self c.recover.new.self
    (sym (ap (λ (n : Node). n.up) c.self.view_is) ∙ c.if-self.false) (sym c.if-not-stands.false ∙ c.stands.ensures.stands) c.in_ok-settle_doubt.ensures c.stands.ensures.left does)
    c.recover.ensures
