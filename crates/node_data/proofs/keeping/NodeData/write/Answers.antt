use Rattle.node_data.proofs.KeptLemmas.{kept_logged, before_versions, new_write, raised_to}
use Rattle.node_data.proofs.SoundLemmas.{sound_logged}
use Rattle.node_data.proofs.keeping.NodeData.write.Goals as goal

pub put-requires : goal.put-requires
put-requires c =
    let next = rw (← c.self.view_is) at c.requires.next in
    let role = rw (← c.self.view_is) at c.requires.role in
    before_versions _ c.args.at c.self.inside.store c.args.op (c.args.ns, c.args.id) c.self.invariant role next c.requires.place

pub append-requires-clause-stays : goal.append-requires-clause-stays
append-requires-clause-stays c =
    let next = rw (← c.self.view_is) at c.requires.next in
    let role = rw (← c.self.view_is) at c.requires.role in
    let left = rw (← c.self.view_is) at c.requires.left in
    let new = new_write _ c.args.at c.args.op c.args.session (c.args.ns, c.args.id) c.args.after role next c.requires.lawful c.requires.session c.requires.within c.requires.place left c.requires.small in
    rw (c.in_ok-reserve.ensures.entries, c.in_ok-op.ensures) (sound_logged _ c.args.at c.args.op c.args.session c.self.invariant.sound new).oplog

pub invariant_of-self-2 : goal.invariant_of-self-2
invariant_of-self-2 c =
    let next = rw (← c.self.view_is) at c.requires.next in
    let role = rw (← c.self.view_is) at c.requires.role in
    let free = rw (← c.self.view_is) at c.requires.free in
    let left = rw (← c.self.view_is) at c.requires.left in
    let new = new_write _ c.args.at c.args.op c.args.session (c.args.ns, c.args.id) c.args.after role next c.requires.lawful c.requires.session c.requires.within c.requires.place left c.requires.small in
    rw (c.append.ensures.entries, c.in_ok-op.ensures, c.in_ok-reserve.ensures.entries, c.append.ensures.slots, raised_to c.self.inside.slots.mark c.args.at.ts next.past)
    (kept_logged _ c.args.at c.self.inside.store c.put.new.self c.args.op c.args.session (c.args.ns, c.args.id) c.args.after c.self.invariant new c.requires.place free left c.in_ok-put.ensures.ok)
