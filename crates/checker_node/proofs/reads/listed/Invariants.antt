use Rattle.std.proofs.Common.{◌≡◌, ◌++◌}
use Rattle.checker_node.proofs.WriteLemmas.{shown_of}
use Rattle.checker_node.proofs.reads.listed.Given as goal

abbrev pub invariant-loop-place : goal.invariant-loop-place
invariant-loop-place l = l.list ++ shown_of l.place-iterator ≡ shown_of l.initial.place-iterator
