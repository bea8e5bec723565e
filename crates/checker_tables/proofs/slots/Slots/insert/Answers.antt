use Rattle.std.proofs.Common.{◌∙◌, ap}
use Rattle.std.specs.FinSet.{FinSet, insert}
use Rattle.optime_slots.specs.Reserved.{optime_cmp}
use Rattle.optime_slots.proofs.SlotLemmas.{slots_with}
use Rattle.checker_tables.proofs.slots.Slots.insert.Goals as goal

pub returns : goal.returns
returns c =
    slots_with c.self.inside.slots.keys c.insert.new.self.keys c.args.at c.in_ok-insert.ensures.updates.0
    ∙ ap (λ (s : FinSet optime_cmp). insert s c.args.at) c.self.view_is
