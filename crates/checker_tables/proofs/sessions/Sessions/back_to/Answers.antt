use Rattle.std.proofs.Common.{arith}
use Rattle.checker_tables.proofs.SessionLemmas.{table_alike, table_none}
use Rattle.checker_tables.proofs.sessions.Sessions.back_to.Goals as goal

pub returns-then-count-kept : goal.returns-then-count-kept
returns-then-count-kept c log other alike is = table_alike log other c.args.self.now c.args.kept (omega arith) alike is

pub returns : goal.returns
returns c log other alike is = table_none other c.clear.new.self c.clear.ensures
