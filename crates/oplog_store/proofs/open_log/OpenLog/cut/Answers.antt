use Rattle.oplog_store.proofs.OpenLemmas.{holed_cut}
use Rattle.oplog_store.proofs.open_log.OpenLog.cut.Goals as goal

pub invariant_of-self : goal.invariant_of-self
invariant_of-self c =
    holed_cut c.self.inside.settled c.gather.new.settled c.cut.new.self c.self.inside.beyond.items c.gather.new.beyond.items c.self.inside.last c.args.to c.last-self-inside.result c.self.inside.spare
    c.self.invariant c.gather.ensures.moved c.gather.ensures.none c.cut.ensures.entries c.cut.ensures.spare c.last-self-inside.ensures
