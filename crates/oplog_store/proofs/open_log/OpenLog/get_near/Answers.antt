use Rattle.std.specs.Option.{option_copied}
use Rattle.oplog_store.specs.Places.{IsEntryAt, written}
use Rattle.oplog_store.proofs.OpenLemmas.{found_second, some_more}
use Rattle.oplog_store.proofs.open_log.OpenLog.get_near.Goals as goal

pub returns-in-None-clause-found : goal.returns-in-None-clause-found
returns-in-None-clause-found c =
    rw (← c.self.view_is)
    (some_more (option_copied c.entry_at.result) (IsEntryAt (written c.self.inside.beyond.items) c.args.at) _ (λ entry found. found_second c.self.inside.settled.entries (written c.self.inside.beyond.items) c.args.at entry found)
    c.entry_at.ensures.found)
