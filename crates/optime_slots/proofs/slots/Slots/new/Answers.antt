use Rattle.optime_slots.proofs.SlotLemmas.{seen_none}
use Rattle.std.proofs.Common.{subst, sym}
use Rattle.std.specs.FinSet.{from_list}
use Rattle.optime_slots.specs.Reserved.{AreSeen}
use Rattle.optime_slots.proofs.slots.Slots.new.Goals as goal

pub invariant_of-result : goal.invariant_of-result
invariant_of-result c = subst (λ keys. AreSeen (from_list keys) 0) (sym c.new.ensures.empty) (seen_none 0)
