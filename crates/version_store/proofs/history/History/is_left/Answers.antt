use Rattle.version_store.proofs.HistoryLemmas.{once_left}
use Rattle.version_store.proofs.history.History.is_left.Goals as goal

pub returns-in-One : goal.returns-in-One
returns-in-One c _ = rw (← c.self.view_is, c.in-Unseen.is, c.in-One.is) (once_left _ _ _ _)
