use Rattle.std.proofs.Common.{◌≡◌, ◌++◌, ◌+◌, length}
use Rattle.repl_msg.specs.Kept.{with_entries}
use Rattle.checker_tables.proofs.merging.put_all.Given as goal

abbrev pub invariant-loop-entry : goal.invariant-loop-entry
invariant-loop-entry l =
    (l.log.entries ≡ with_entries l.initial.log.entries l.yielded)
    × (l.log.spare + length l.yielded ≡ l.initial.log.spare)
    × (l.yielded ++ l.entry-iterator.rest.items ≡ l.fn.entries.items)
