use Rattle.std.proofs.Common.{◌≡◌, ◌+◌, ap, arith}
use Rattle.checker_tables.specs.SessionTable.{Table}
use Rattle.checker_tables.proofs.SessionLemmas.{table_idle, table_none}
use Rattle.std.specs.Prelude.{insert}
use Rattle.checker_tables.proofs.sessions.Sessions.insert_idle.Goals as goal

pub returns-in_default : goal.returns-in_default
returns-in_default c log place entry none before table = table_none (insert log place entry) c.clear.new.self c.clear.ensures

pub returns : goal.returns
returns c log place entry none before table =
    let old = c.args.self.now in
    let same : c.self.inside.count ≡ old.count = ap (λ (t : Table). t.count) c.self.view_is in
    let more : c.in-Some.count ≡ old.count + 1 = omega (arith, same, c.in-Some.ensures.1) in
    table_idle log place entry old (record { writes = c.self.inside.last; count = c.in-Some.count }) before (omega (arith, before, table.within)) none
    (ap (λ (t : Table). t.writes) c.self.view_is) more table
