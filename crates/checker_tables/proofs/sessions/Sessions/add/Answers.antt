use Rattle.std.proofs.Common.{◌∙◌, ◌+◌, ap}
use Rattle.std.specs.FinMap as maps
use Rattle.set_model.specs.Sessions.{later_write}
use Rattle.checker_tables.specs.SessionTable.{Table}
use Rattle.checker_tables.proofs.SessionLemmas.{counts_more}
use Rattle.checker_tables.proofs.sessions.Sessions.add.Goals as goal

pub returns-clause-ok : goal.returns-clause-ok
returns-clause-ok c log counts =
    let entry = c.args.entry.now in
    counts_more log entry c.args.self.now (record { writes = c.add.new.self; count = c.self.inside.count + 1 })
    (ap (λ (t : Table). t.count + 1) c.self.view_is)
    (λ id. c.in_ok-add.ensures.ok id ∙ ap (λ (t : Table). later_write id (maps.get t.writes id) entry.optime entry.session) c.self.view_is) counts
