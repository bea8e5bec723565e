use Rattle.std.proofs.Common.{refl}
use Rattle.node_data.proofs.KeptLemmas.{before_slot, kept_settled}
use Rattle.node_data.proofs.SoundLemmas.{sound_settled}
use Rattle.node_data.proofs.StoreLemmas.{slot_closed}
use Rattle.node_data.proofs.keeping.NodeData.settle.Goals as goal

pub put-requires : goal.put-requires
put-requires c =
    let writes = rw (← c.self.view_is) at c.in_ok-slot.ensures in
    rw (c.in_ok-copy.ensures, c.in_ok-copy-2.ensures)
    (before_slot _ c.self.inside.store c.args.number c.in_ok-slot.slot.at writes.0 (c.in_ok-slot.slot.ns, c.in_ok-slot.slot.id) c.self.invariant writes.1 writes.2)

pub insert-requires-clause-stays : goal.insert-requires-clause-stays
insert-requires-clause-stays c =
    let writes = rw (← c.self.view_is) at c.in_ok-slot.ensures in
    let op_is = c.finish-op.ensures.op c.in_ok-slot.slot.at writes.0 writes.1 in
    rw (c.in_ok-reserve.ensures.entries, op_is) (sound_settled _ c.args.number c.in_ok-slot.slot.at writes.0 c.self.invariant.sound c.self.invariant.writers writes.1).oplog

pub invariant_of-self-2 : goal.invariant_of-self-2
invariant_of-self-2 c =
    let writes = rw (← c.self.view_is) at c.in_ok-slot.ensures in
    let pending = c.self.invariant.writers.pending c.args.number c.in_ok-slot.slot.at writes.0 writes.1 in
    let op_is = c.finish-op.ensures.op c.in_ok-slot.slot.at writes.0 writes.1 in
    let closed = slot_closed c.settle.result c.self.inside.slots c.settle.new.self c.in_ok-slot.slot.at c.settle.ensures.open c.settle.ensures.ok pending.open_slot in
    let after = rw (← c.self.view_is) at c.in_ok-after.ensures in
    let put = rw (c.in_ok-copy.ensures, c.in_ok-copy-2.ensures) at c.in_ok-put.ensures.ok in
    let released = rw c.as_str.ensures at c.release.ensures in
    rw (c.insert.ensures.entries, c.in_ok-reserve.ensures.entries, op_is, closed, c.finish-op.ensures.done)
    (kept_settled _ c.self.inside.store c.put.new.self c.release.new.self c.args.number c.in_ok-slot.slot.at writes.0 (c.in_ok-slot.slot.ns, c.in_ok-slot.slot.id) c.in_ok-after.after
    c.self.invariant writes.1 writes.2 (after c.in_ok-slot.slot.at writes.0 writes.1) put released)

pub returns-clause-ok : goal.returns-clause-ok
returns-clause-ok c =
    let writes = rw (← c.self.view_is) at c.in_ok-slot.ensures in
    let pending = c.self.invariant.writers.pending c.args.number c.in_ok-slot.slot.at writes.0 writes.1 in
    let op_is = c.finish-op.ensures.op c.in_ok-slot.slot.at writes.0 writes.1 in
    let closed = slot_closed c.settle.result c.self.inside.slots c.settle.new.self c.in_ok-slot.slot.at c.settle.ensures.open c.settle.ensures.ok pending.open_slot in
    rw (← c.self.view_is, c.insert.ensures.entries, c.in_ok-reserve.ensures.entries, op_is, closed, c.finish-op.ensures.done) (writes.0, writes.1, refl)
