use Rattle.std.proofs.Common.{◌≡◌, take}
use Rattle.fault_script.proofs.lists.Threads.copy.Given as goal

abbrev pub invariant-loop-lines : goal.invariant-loop-lines
invariant-loop-lines l = l.copies.items ≡ take l.lines-index l.lines-items
