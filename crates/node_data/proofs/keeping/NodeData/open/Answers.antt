use Rattle.std.proofs.Common.{◌∙◌, ap, refl, rules}
use Rattle.oplog_store.specs.Places.{LogWithHoles}
use Rattle.node_data.proofs.HolderLemmas.{holder_is}
use Rattle.node_data.proofs.KeptLemmas.{kept_put_back, kept_slot_opened, new_open}
use Rattle.node_data.proofs.MapLemmas.{get-with-same}
use Rattle.node_data.proofs.WriterLemmas.{put_back-insert}
use Rattle.node_data.proofs.keeping.NodeData.open.Goals as goal

pub hold-requires-clause-free : goal.hold-requires-clause-free
hold-requires-clause-free c =
    let free = rw (← c.self.view_is) at c.requires.free in
    holder_is _ c.self.inside.store (c.args.ns.now, c.args.id.now) c.self.invariant ∙ free

pub put_back-requires : goal.put_back-requires
put_back-requires c =
    rw (c.in_ok-old.ensures.ok, get-with-same c.self.inside.writers c.args.number c.open.result) (search rules)

pub invariant_of-self-in-Err : goal.invariant_of-self-in-Err
invariant_of-self-in-Err c =
    let back = put_back-insert c.self.inside.writers c.args.number c.open.result c.in_ok-old.old c.in_ok-old.ensures.old in
    kept_put_back c.self.inside.writable c.self.inside.log.entries c.self.inside.slots c.hold.new.slots c.self.inside.writers c.put_back.new.self c.self.inside.applied c.self.inside.stable
    c.self.inside.store c.hold.new.store c.self.invariant c.in-Err.ensures.no_slot (rw (c.put_back.ensures, c.in_ok-old.ensures.ok) back) c.hold.ensures.count c.in-Err.ensures.not_held

pub returns-in-Err-clause-err : goal.returns-in-Err-clause-err
returns-in-Err-clause-err c =
    let back = put_back-insert c.self.inside.writers c.args.number c.open.result c.in_ok-old.old c.in_ok-old.ensures.old in
    rw (c.put_back.ensures, c.in_ok-old.ensures.ok, back, c.in-Err.ensures.no_slot) (rw (← c.self.view_is) refl)

pub invariant_of-self-2 : goal.invariant_of-self-2
invariant_of-self-2 c =
    let next = rw (← c.self.view_is) at c.requires.next in
    let role = rw (← c.self.view_is) at c.requires.role in
    let free = rw (← c.self.view_is) at c.requires.free in
    let closed = rw (← c.self.view_is) at c.requires.closed in
    let small = rw (← c.self.view_is) at c.requires.small in
    kept_slot_opened c.self.inside.writable c.self.inside.log.entries _ c.self.inside.slots c.hold.new.slots c.self.inside.writers c.insert.new.self c.self.inside.applied c.self.inside.stable c.args.at
    c.self.inside.store c.hold.new.store c.args.number c.open.result c.args.op (c.args.ns.now, c.args.id.now) c.self.invariant
    (new_open _ c.args.at c.args.op (c.args.ns.now, c.args.id.now) role next c.requires.lawful c.requires.within c.requires.place small) c.requires.place free closed
    (ap (λ (l : LogWithHoles). l.entries) c.open-2.ensures) c.in_default-hold.ensures.slot c.in_ok-old.ensures.ok (rw c.in_ok-op.ensures at c.open.ensures) c.in_default-hold.ensures.held
