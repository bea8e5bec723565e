use Rattle.std.proofs.Common.{◌≡◌, take}
use Rattle.node_commands.specs.Flushing.{entries_at}
use Rattle.node_commands.proofs.disk.copies_at.Given as goal

abbrev pub invariant-loop-at : goal.invariant-loop-at
invariant-loop-at l = l.copies.items ≡ entries_at l.node_data.node.log (take l.at-index l.optimes)
