use Rattle.std.proofs.Common.{◌≡◌, ◌∙◌, ap, sym, refl, Some}
use Rattle.set_model.specs.declared.writer.Writer.{Writer}
use Rattle.set_model.specs.declared.writer.Writer.TheVariants.{Open}
use Rattle.node_data.proofs.KeptLemmas.{kept_aborted}
use Rattle.node_data.proofs.StoreLemmas.{slot_closed}
use Rattle.node_data.proofs.keeping.NodeData.abort.Goals as goal

pub unreachable-requires-in_default-slot : goal.unreachable-requires-in_default-slot
unreachable-requires-in_default-slot c =
    let writing = rw (← c.self.view_is) at c.requires in
    let held : Some c.in-Some.held ≡ Some (Open writing.0 writing.1) = sym c.in-Some.is ∙ c.take.ensures.taken ∙ writing.2 in
    let same : c.in-Some.held ≡ Open writing.0 writing.1 = cc in
    c.in_default-slot.ensures writing.0 writing.1 (c.self.invariant.writers.pending c.args.number writing.0 writing.1 writing.2).place same

pub invariant_of-self : goal.invariant_of-self
invariant_of-self c =
    let slot = c.in-Some-slot.ensures in
    let opens = sym c.take.ensures.taken ∙ c.in-Some.is ∙ ap (λ (w : Writer). Some w) slot.1 in
    let pending = c.self.invariant.writers.pending c.args.number c.in-Some-slot.at slot.0 opens in
    let closed = slot_closed c.abort.result c.self.inside.slots c.abort.new.self c.in-Some-slot.at c.abort.ensures.open c.abort.ensures.ok pending.open_slot in
    let released = rw c.as_str.ensures at c.release.ensures in
    rw (c.close.ensures.entries, closed, c.take.ensures.map)
    (kept_aborted _ c.self.inside.store c.release.new.self c.args.number c.in-Some-slot.at slot.0 (c.in-Some-slot.ns, c.in-Some-slot.id) c.self.invariant opens slot.2 released)

pub returns-clause-node : goal.returns-clause-node
returns-clause-node c =
    let slot = c.in-Some-slot.ensures in
    let opens = sym c.take.ensures.taken ∙ c.in-Some.is ∙ ap (λ (w : Writer). Some w) slot.1 in
    let pending = c.self.invariant.writers.pending c.args.number c.in-Some-slot.at slot.0 opens in
    let closed = slot_closed c.abort.result c.self.inside.slots c.abort.new.self c.in-Some-slot.at c.abort.ensures.open c.abort.ensures.ok pending.open_slot in
    rw (← c.self.view_is, c.close.ensures.entries, closed, c.take.ensures.map) (c.in-Some-slot.at, slot.0, opens, refl)
