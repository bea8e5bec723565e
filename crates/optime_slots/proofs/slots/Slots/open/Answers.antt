use Rattle.std.proofs.Common.{◌≡◌, ap, sym, subst, arith}
use Rattle.std.specs.FinSet.{FinSet, insert, from_list}
use Rattle.optime_slots.specs.Reserved.{AreSeen, optime_cmp}
use Rattle.optime_slots.proofs.SlotLemmas.{slots_with, seen_with}
use Rattle.optime_slots.proofs.slots.Slots.open.Goals as goal

pub invariant_of-self-2 : goal.invariant_of-self-2
invariant_of-self-2 c =
    let later = rw (← c.self.view_is) at c.requires in
    subst (λ s. AreSeen s c.args.at.ts)
    (sym (slots_with c.self.inside.slots.keys c.insert.new.self.keys c.args.at c.in_ok-insert.ensures.updates.0))
    (seen_with _ c.self.inside.mark _ c.args.at c.self.invariant (omega (arith, later)) (omega (arith, later)) (omega arith))

pub returns-clause-ok : goal.returns-clause-ok
returns-clause-ok c =
    let with : from_list c.insert.new.self.keys ≡ insert (from_list c.self.inside.slots.keys) c.args.at =
    slots_with c.self.inside.slots.keys c.insert.new.self.keys c.args.at c.in_ok-insert.ensures.updates.0 in
    rw (← c.self.view_is) (ap (λ (s : FinSet optime_cmp). record { slots = s; mark = c.args.at.ts }) with)
