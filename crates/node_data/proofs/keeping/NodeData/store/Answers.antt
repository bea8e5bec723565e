use Rattle.node_data.proofs.ShownLemmas.{local_latest, local_shown}
use Rattle.node_data.proofs.keeping.NodeData.store.Goals as goal

pub returns-clause-latest : goal.returns-clause-latest
returns-clause-latest c = rw (← c.self.view_is) (local_latest _ c.self.inside.store c.self.invariant)

pub returns-clause-shown : goal.returns-clause-shown
returns-clause-shown c = rw (← c.self.view_is) (local_shown _ c.self.inside.store c.self.invariant)
