use Rattle.std.proofs.Common.{◌≡◌, ap, sym, subst, ◌∙◌}
use Rattle.std.specs.FinSet.{FinSet, contains, contains-from_list, from_list, remove}
use Rattle.optime_slots.specs.Reserved.{AreSeen, optime_cmp}
use Rattle.optime_slots.proofs.SlotLemmas.{slots_without, seen_without, optime_total}
use Rattle.optime_slots.proofs.slots.Slots.settle.Goals as goal

pub returns-then-not-remove-clause-open : goal.returns-then-not-remove-clause-open
returns-then-not-remove-clause-open c =
    let test : c.remove.result ≡ contains (from_list {R = optime_cmp} c.self.inside.slots.keys) c.args.at =
    c.remove.ensures.test ∙ sym (contains-from_list optime_total c.self.inside.slots.keys c.args.at) in
    rw (← c.self.view_is) (sym c.if-not-remove.true ∙ test)

pub invariant_of-self-2 : goal.invariant_of-self-2
invariant_of-self-2 c =
    subst (λ s. AreSeen s c.self.inside.mark)
    (sym (slots_without c.self.inside.slots.keys c.remove.new.self.keys c.args.at c.remove.ensures.updates.0))
    (seen_without _ _ c.args.at c.self.invariant)

pub returns-clause-open : goal.returns-clause-open
returns-clause-open c =
    let test : c.remove.result ≡ contains (from_list {R = optime_cmp} c.self.inside.slots.keys) c.args.at =
    c.remove.ensures.test ∙ sym (contains-from_list optime_total c.self.inside.slots.keys c.args.at) in
    rw (← c.self.view_is) (sym c.if-not-remove.false ∙ test)

pub returns-clause-ok : goal.returns-clause-ok
returns-clause-ok c =
    let without : from_list c.remove.new.self.keys ≡ remove (from_list c.self.inside.slots.keys) c.args.at =
    slots_without c.self.inside.slots.keys c.remove.new.self.keys c.args.at c.remove.ensures.updates.0 in
    rw (← c.self.view_is) (ap (λ (s : FinSet optime_cmp). record { slots = s; mark = c.self.inside.mark }) without)
