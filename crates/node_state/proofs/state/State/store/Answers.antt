use Rattle.std.proofs.Common.{◌∙◌, ap, subst, sym}
use Rattle.std.specs.FinMap as maps
use Rattle.node_data.specs.NodeData.{IsReadable}
use Rattle.node_state.specs.StateView.{StateView}
use Rattle.node_state.proofs.Inside.{rest_in}
use Rattle.node_state.proofs.StateLemmas.{local_seen, readable_data}
use Rattle.set_model.specs.Reads.{local_documents}
use Rattle.node_state.proofs.state.State.store.Goals as goal

pub returns-clause-latest : goal.returns-clause-latest
returns-clause-latest c place =
    c.store.ensures.latest place
    ∙ ap (λ documents. maps.get documents place) (local_seen c.self.inside.node_data.node (rest_in c.self.inside) c.self.invariant.writable ∙ ap (λ (s : StateView). local_documents s.node) c.self.view_is)

pub returns-clause-shown : goal.returns-clause-shown
returns-clause-shown c place at readable =
    rw (← c.self.view_is) (c.store.ensures.shown place at
    (readable_data c.self.inside.node_data.node (rest_in c.self.inside) at c.self.invariant.writable (subst (λ (s : StateView). IsReadable s.node at) (sym c.self.view_is) readable)))
