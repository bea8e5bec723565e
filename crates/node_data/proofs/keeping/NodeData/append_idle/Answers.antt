use Rattle.std.proofs.Common.{None}
use Rattle.node_data.proofs.KeptLemmas.{idle_nowhere, kept_idle, new_idle, raised_to}
use Rattle.node_data.proofs.SoundLemmas.{sound_logged}
use Rattle.node_data.proofs.keeping.NodeData.append_idle.Goals as goal

pub append-requires-clause-stays : goal.append-requires-clause-stays
append-requires-clause-stays c =
    let next = rw (← c.self.view_is) at c.requires.next in
    let role = rw (← c.self.view_is) at c.requires.role in
    (sound_logged _ c.args.at c.args.op None c.self.invariant.sound (new_idle _ c.args.at c.args.op role next c.requires.idle)).oplog

pub invariant_of-self : goal.invariant_of-self
invariant_of-self c =
    let next = rw (← c.self.view_is) at c.requires.next in
    let role = rw (← c.self.view_is) at c.requires.role in
    rw (c.append.ensures.entries, c.append.ensures.slots, raised_to c.self.inside.slots.mark c.args.at.ts next.past)
    (kept_idle _ c.args.at c.self.inside.store c.args.op c.self.invariant (new_idle _ c.args.at c.args.op role next c.requires.idle) (idle_nowhere c.args.op c.requires.idle))
