use Rattle.std.proofs.Common.{sym, subst}
use Rattle.node_data.specs.NodeData.{IsReadable}
use Rattle.node_state.specs.StateView.{StateView}
use Rattle.node_state.proofs.StateLemmas.{readable_data}
use Rattle.node_state.proofs.Inside.{rest_in}
use Rattle.node_answers.proofs.reads.shown.Goals as goal

pub read_at-requires : goal.read_at-requires
read_at-requires c =
    let s = c.state.inside in
    readable_data s.node_data.node (rest_in s) c.shown_point.result c.state.invariant.writable
    (subst (λ (x : StateView). IsReadable x.node c.shown_point.result) (sym c.state.view_is) c.shown_point.ensures.readable)
