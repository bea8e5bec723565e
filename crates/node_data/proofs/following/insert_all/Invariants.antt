use Rattle.std.proofs.Common.{◌≡◌, ◌++◌, ◌-◌, length}
use Rattle.set_model.specs.Fetching.{seen_after}
use Rattle.node_data.proofs.following.insert_all.Given as goal

abbrev pub invariant-loop-entry : goal.invariant-loop-entry
invariant-loop-entry l =
    (l.log.entries ≡ l.initial.log.entries ++ l.yielded)
    × (l.log.spare ≡ l.initial.log.spare - length l.yielded)
    × (l.slots ≡ record { slots = l.initial.slots.slots; mark = seen_after l.initial.slots.mark l.yielded })
    × (l.yielded ++ l.entry-iterator.rest.items ≡ l.fn.entries.items)
