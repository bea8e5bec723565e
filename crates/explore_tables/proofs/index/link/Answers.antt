use Rattle.explore_tables.proofs.ChainLemmas.{linked, unlinked}
use Rattle.explore_tables.proofs.index.link.Goals as goal

pub returns-then-chain-heads-clause-chained : goal.returns-then-chain-heads-clause-chained
returns-then-chain-heads-clause-chained c = linked _ _ _ _ _ c.requires.within c.if-chain-heads.true c.requires.chained (c.requires.chained.begins _)

pub returns-else-chain-heads-clause-chained : goal.returns-else-chain-heads-clause-chained
returns-else-chain-heads-clause-chained c = unlinked _ _ _ _ c.requires.within c.requires.chained
