use Rattle.std.proofs.Common.{◌≡◌}
use Rattle.checker_tables.specs.SessionTable.{IsTableOf}
use Rattle.checker_tables.proofs.sessions.Sessions.last_write.Given as goal

abbrev pub invariant-loop-place : goal.invariant-loop-place
invariant-loop-place l = IsTableOf l.entries l.self × (l.place ≡ l.self.count)
