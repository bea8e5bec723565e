use Rattle.std.proofs.Common.{◌∙◌, ap}
use Rattle.std.specs.FinSet.{FinSet, remove}
use Rattle.optime_slots.specs.Reserved.{optime_cmp}
use Rattle.optime_slots.proofs.SlotLemmas.{slots_without}
use Rattle.checker_tables.proofs.slots.Slots.remove.Goals as goal

pub returns : goal.returns
returns c =
    slots_without c.self.inside.slots.keys c.remove.new.self.keys c.args.at c.remove.ensures.updates.0
    ∙ ap (λ (s : FinSet optime_cmp). remove s c.args.at) c.self.view_is
