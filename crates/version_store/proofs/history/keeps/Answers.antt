use Rattle.version_store.proofs.HistoryLemmas.{once_stays}
use Rattle.version_store.proofs.history.keeps.Goals as goal

pub returns-in-Unseen : goal.returns-in-Unseen
returns-in-Unseen c doc = rw c.in-Unseen.is (once_stays _ c.args.since doc)
