use Rattle.std.proofs.Common.{◌≡◌, sym, subst}
use Rattle.std.specs.FinMap as maps
use Rattle.oplog_entry.specs.Docs.{docs}
use Rattle.oplog_entry.specs.Visible.{log_up_to}
use Rattle.version_store.specs.Past.{latest_of}
use Rattle.version_store.specs.Store.{shown_at, versions_at}
use Rattle.set_model.specs.Node.{Node}
use Rattle.set_model.specs.Reads.{local_documents}
use Rattle.node_data.specs.NodeData.{IsReadable}
use Rattle.node_core.specs.Down.{down_state}
use Rattle.node_core.proofs.PlainLemmas.{seen_up}
use Rattle.node_core.proofs.node.Node.store.Goals as goal

pub returns-clause-latest : goal.returns-clause-latest
returns-clause-latest g c =
    let s = c.self.inside in
    rw (← c.self.view_is) (λ up place. subst (λ (n : Node). latest_of (versions_at c.store.result.now place) ≡ maps.get (local_documents n) place)
    (sym (seen_up s.up s.state.node (down_state s.left) up)) (c.store.ensures.latest place))

pub returns-clause-shown : goal.returns-clause-shown
returns-clause-shown g c =
    let s = c.self.inside in
    rw (← c.self.view_is) (λ up place at readable.
    let same = seen_up s.up s.state.node (down_state s.left) up in
    subst (λ (n : Node). shown_at c.store.result.now place at ≡ maps.get (docs (log_up_to at n.log)) place) (sym same)
    (c.store.ensures.shown place at (subst (λ (n : Node). IsReadable n at) same readable)))
