use Rattle.std.proofs.Common.{◌∙◌, sym, rules}
use Rattle.node_data.proofs.SessionLogLemmas.{table_stays}
use Rattle.node_data.proofs.session_log.SessionLog.take_in.Goals as goal

pub invariant_of-self-then-is_some-2 : goal.invariant_of-self-then-is_some-2
invariant_of-self-then-is_some-2 c = (search rules, c.clear.ensures c.insert.new.self.entries)

pub invariant_of-self : goal.invariant_of-self
invariant_of-self c = (search rules, c.clear.ensures c.insert.new.self.entries)

pub invariant_of-self-else-is_some : goal.invariant_of-self-else-is_some
invariant_of-self-else-is_some c = (
  rw c.insert.ensures.entries
      (table_stays c.self.inside.last c.self.inside.log.entries c.args.entry (sym c.is_some.ensures ∙ c.if-is_some.false) c.self.invariant.0),
  c.clear.ensures c.insert.new.self.entries,
)
