use Rattle.std.proofs.Common.{◌≡◌, Some, map, slice_get}
use Rattle.explore_steps.specs.Tables.{AreNumbered}
use Rattle.explore_steps.proofs.events.place_all.Given as goal

abbrev pub invariant-loop-message : goal.invariant-loop-message
invariant-loop-message l = record {
  grown : AreNumbered l.initial.table l.table;
  placed : map (slice_get l.table) l.numbers.items ≡ map Some l.yielded;
}
