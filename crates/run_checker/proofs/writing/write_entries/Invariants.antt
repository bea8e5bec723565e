use Rattle.std.proofs.Common.{◌≡◌, ◌++◌, length, take, string_bytes}
use Rattle.run_checker.specs.Trace.{entries_text}
use Rattle.run_checker.proofs.writing.write_entries.Given as goal

abbrev pub invariant-loop-event : goal.invariant-loop-event
invariant-loop-event l =
    string_bytes l.out ≡ string_bytes l.fn.out ++ entries_text (take (length l.yielded) l.events) (take (length l.yielded) l.replies)
