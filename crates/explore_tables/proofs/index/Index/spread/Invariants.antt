use Rattle.explore_tables.specs.Chains.{AreChained}
use Rattle.explore_tables.proofs.index.Index.spread.Given as goal

abbrev pub invariant-loop-place : goal.invariant-loop-place
invariant-loop-place l = AreChained l.place l.self-inside.heads.items l.self-inside.items.items
