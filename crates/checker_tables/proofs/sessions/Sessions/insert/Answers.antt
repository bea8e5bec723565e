use Rattle.std.proofs.Common.{◌∙◌, ap, arith, sym}
use Rattle.std.specs.Prelude.{Option, insert}
use Rattle.std.specs.Option.{is_some}
use Rattle.oplog_entry.specs.declared.entry.Session.{Session}
use Rattle.checker_tables.proofs.SessionLemmas.{no_session, table_back, table_after}
use Rattle.checker_tables.proofs.sessions.Sessions.insert.Goals as goal

pub returns-then-count-place : goal.returns-then-count-place
returns-then-count-place c log entry same within table = table_after log c.args.place entry c.args.self.now (omega arith) within table

pub returns-then-is_some : goal.returns-then-is_some
returns-then-is_some c log entry same within table = c.back_to.ensures log (insert log c.args.place entry) (table_back log c.args.place entry within) table

pub returns : goal.returns
returns c log entry same within table =
    let none = no_session entry (ap (λ (session : Option Session). is_some session) same ∙ sym c.is_some.ensures ∙ c.if-is_some.false) in
    c.insert_idle.ensures log c.args.place entry none (omega arith) table
