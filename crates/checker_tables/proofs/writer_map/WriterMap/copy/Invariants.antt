use Rattle.std.specs.Iterator.Adapters.{rev_source}
use Rattle.checker_tables.proofs.CopyLemmas.{CopiedSoFar}
use Rattle.checker_tables.proofs.writer_map.WriterMap.copy.Given as goal

abbrev pub invariant-loop-number : goal.invariant-loop-number
invariant-loop-number l = CopiedSoFar (rev_source l.initial.number-iterator) (rev_source l.number-iterator) l.copies
