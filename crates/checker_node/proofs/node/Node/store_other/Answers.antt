use Rattle.checker_tables.proofs.JournalLemmas.{other_oplog}
use Rattle.checker_node.proofs.node.Node.store_other.Goals as goal

pub store-requires-clause-stays : goal.store-requires-clause-stays
store-requires-clause-stays c = other_oplog c.args.self.now.records c.args.item c.requires.other c.recall_kept.ensures
