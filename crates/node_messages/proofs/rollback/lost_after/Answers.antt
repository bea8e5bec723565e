use Rattle.std.proofs.Common.{◌≡◌, ◌∙◌, ap, subst}
use Rattle.std.specs.Prelude.{IfOk}
use Rattle.repl_msg.specs.Logs.{log_after}
use Rattle.set_model.specs.Reads.{local_documents}
use Rattle.set_model.specs.Rollback.{lost_documents}
use Rattle.node_state.specs.StateView.{StateView}
use Rattle.node_state.proofs.Inside.{rest_in}
use Rattle.node_state.proofs.StateLemmas.{local_seen}
use Rattle.node_messages.proofs.rollback.lost_after.Goals as goal

pub returns-clause-lost : goal.returns-clause-lost
returns-clause-lost c =
    subst (λ value. IfOk c.listed.result (λ lost. lost ≡ value))
    (c.in_ok-lost_after.ensures.lost
    ∙ ap (λ documents. lost_documents documents (log_after c.args.point c.state.inside.node_data.node.log)) (local_seen c.state.inside.node_data.node (rest_in c.state.inside) c.state.invariant.writable)
    ∙ ap (λ (s : StateView). lost_documents (local_documents s.node) (log_after c.args.point s.node.log)) c.state.view_is)
    c.listed.ensures
