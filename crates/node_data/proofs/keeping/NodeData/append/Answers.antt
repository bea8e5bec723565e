use Rattle.node_data.proofs.GoesOnLemmas.{kept_appended}
use Rattle.node_data.proofs.keeping.NodeData.append.Goals as goal

pub invariant_of-self : goal.invariant_of-self
invariant_of-self c =
    let role = rw (← c.self.view_is) at c.requires.role in
    let oplog = rw (← c.self.view_is) at c.requires.oplog in
    let later = rw (← c.self.view_is) at c.requires.later in
    let small = rw (← c.self.view_is) at c.requires.small in
    rw (c.insert_all.ensures.entries, c.insert_all.ensures.slots)
    (kept_appended _ c.self.inside.store c.args.entries.items c.self.invariant role oplog later c.requires.within small)
