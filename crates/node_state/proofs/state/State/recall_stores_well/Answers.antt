use Rattle.std.proofs.Common.{subst}
use Rattle.std.specs.Prelude.{min}
use Rattle.node_state.specs.Ready.{IsReady}
use Rattle.node_state.specs.StateView.{StateView}
use Rattle.node_state.specs.WellKept.{StoresWell}
use Rattle.node_state.proofs.Inside.{rest_in}
use Rattle.node_state.proofs.StoredLemmas.{stores_in_memory}
use Rattle.node_state.proofs.state.State.recall_stores_well.Goals as goal

pub returns : goal.returns
returns c =
    subst (λ (s : StateView). IsReady c.args._item.now c.args._then.now s → StoresWell s.node c.args._item.now) c.self.view_is
    (λ ready. stores_in_memory c.args._item.now c.args._then.now c.self.inside.node_data.node (rest_in c.self.inside) (min c.self.inside.node_data.spare c.self.inside.unjournaled.spare) c.self.inside.known.spare c.self.inside.unjournaled.optimes
    c.recall_sound.ensures.node c.self.invariant (ready, c.requires.stored))
    c.requires.ready
