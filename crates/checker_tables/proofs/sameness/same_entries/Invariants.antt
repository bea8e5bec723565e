use Rattle.checker_tables.proofs.SameLemmas.{AgreeTo}
use Rattle.checker_tables.proofs.sameness.same_entries.Given as goal

abbrev pub invariant-loop-place : goal.invariant-loop-place
invariant-loop-place l = AgreeTo l.place l.one l.other
