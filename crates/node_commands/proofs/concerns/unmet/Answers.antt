use Rattle.std.proofs.Common.{◌∙◌, ap}
use Rattle.set_model.specs.Concerns.{unmet}
use Rattle.set_model.specs.Node.{Node}
use Rattle.write_concern.specs.Answered.{answered}
use Rattle.write_concern.specs.declared.acks.Concern.{Concern}
use Rattle.part_laws.specs.Concerns.{refusal_of}
use Rattle.part_laws.proofs.RowLemmas.{concerns_agree}
use Rattle.node_state.specs.Seen.{seen_node}
use Rattle.node_state.specs.StateView.{StateView}
use Rattle.node_state.proofs.Inside.{rest_in}
use Rattle.node_commands.proofs.concerns.unmet.Goals as goal

pub returns : goal.returns
returns c =
    let node : Node = seen_node c.state.inside.node_data.node (rest_in c.state.inside) in
    c.refusal.ensures
    ∙ ap refusal_of (c.answer.ensures ∙ ap (λ (k : Concern). answered node.progress node.config node.number node.durable node.commit c.args.at k) c.concern.ensures)
    ∙ concerns_agree node c.args.at c.args.asked ∙ ap (λ (s : StateView). unmet s.node c.args.at c.args.asked) c.state.view_is
