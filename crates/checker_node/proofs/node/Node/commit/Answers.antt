use Rattle.std.proofs.Common.{◌∙◌, sym}
use Rattle.std.specs.FinMap.{get}
use Rattle.checker_node.proofs.WriteLemmas.{slot_there}
use Rattle.checker_node.proofs.node.Node.commit.Goals as goal

pub settle-requires : goal.settle-requires
settle-requires c =
    c.requires.writers c.args.writer c.in-Ok.at c.in-Ok.op
    (slot_there (get c.args.self.now.writers c.args.writer) c.in-Ok.at c.in-Ok.op (sym c.in-Ok.is ∙ c.in_ok-at.ensures))
