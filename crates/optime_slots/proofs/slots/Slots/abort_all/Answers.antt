use Rattle.optime_slots.proofs.SlotLemmas.{seen_none}
use Rattle.std.proofs.Common.{subst, sym}
use Rattle.std.specs.FinSet.{from_list}
use Rattle.optime_slots.specs.Reserved.{AreSeen}
use Rattle.optime_slots.proofs.slots.Slots.abort_all.Goals as goal

pub invariant_of-self : goal.invariant_of-self
invariant_of-self c = subst (λ keys. AreSeen (from_list keys) c.self.inside.mark) (sym c.clear.ensures.empty) (seen_none _)
