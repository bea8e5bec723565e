use Rattle.std.proofs.Common.{◌∙◌, ap}
use Rattle.std.specs.FinSet.{FinSet, from_list, items}
use Rattle.std.specs.Option.{option_copied}
use Rattle.oplog_entry.specs.Visible.{least}
use Rattle.optime_slots.specs.Reserved.{optime_cmp}
use Rattle.optime_slots.proofs.SlotLemmas.{least_of}
use Rattle.checker_tables.proofs.SlotLemmas.{of_least}
use Rattle.checker_tables.proofs.slots.Slots.least.Goals as goal

pub returns : goal.returns
returns c =
    let keys = c.self.inside.slots.keys in
    c.copied.ensures
    ∙ of_least (from_list keys) 0 (option_copied c.first.result) (least_of keys 0 c.first.result c.first.ensures.variant c.first.ensures.member c.first.ensures.least)
    ∙ ap (λ (s : FinSet optime_cmp). least (items s)) c.self.view_is
