use Rattle.std.proofs.Common.{◌≡◌}
use Rattle.checker_tables.proofs.writer_map.WriterMap.same.Given as goal

abbrev pub invariant-loop-number : goal.invariant-loop-number
invariant-loop-number l = l.number-iterator ≡ l.others → l.self ≡ l.other
