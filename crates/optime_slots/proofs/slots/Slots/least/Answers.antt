use Rattle.optime_slots.proofs.SlotLemmas.{least_of}
use Rattle.optime_slots.proofs.slots.Slots.least.Goals as goal

pub returns : goal.returns
returns c =
    rw (c.copied.ensures, ← c.self.view_is)
    (least_of c.self.inside.slots.keys c.self.inside.mark c.first.result c.first.ensures.variant c.first.ensures.member c.first.ensures.least)
