use Rattle.std.proofs.Common.{◌∙◌, ap}
use Rattle.std.specs.FinMap.{get}
use Rattle.std.specs.Option.{option_copied}
use Rattle.oplog_entry.specs.Docs.{docs}
use Rattle.set_model.specs.Node.{Node}
use Rattle.checker_node.proofs.WriteLemmas.{named_there}
use Rattle.checker_node.proofs.node.Node.admit.Goals as goal

pub prepare-requires-clause-own : goal.prepare-requires-clause-own
prepare-requires-clause-own c =
    named_there c.args.self.now.log c.args.op.now c.in-Ok.place (option_copied c.in_ok-latest.field-0) c.requires.sound.oplog c.in-Ok.ensures
    (c.in_ok-latest.ensures.document ∙ ap (λ (n : Node). get (docs n.log) c.in-Ok.place) c.self.view_is)
