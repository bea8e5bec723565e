use Rattle.std.proofs.Common.{◌≡◌}
use Rattle.std.specs.FinMap as maps
use Rattle.set_model.specs.Holds.{holder_among}
use Rattle.checker_tables.proofs.writer_map.WriterMap.first_holder.Given as goal

abbrev pub invariant-loop-number : goal.invariant-loop-number
invariant-loop-number l = holder_among l.number-iterator l.place ≡ holder_among (maps.entries l.self) l.place
