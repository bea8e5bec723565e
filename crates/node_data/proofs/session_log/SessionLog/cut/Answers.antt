use Rattle.std.proofs.Common.{not, rules}
use Rattle.oplog_entry.specs.Visible.{is_before}
use Rattle.oplog_entry.specs.declared.entry.Entry.{Entry}
use Rattle.node_data.proofs.SessionLogLemmas.{table_bare}
use Rattle.node_data.proofs.session_log.SessionLog.cut.Goals as goal

pub invariant_of-self : goal.invariant_of-self
invariant_of-self c = (search rules, c.clear.ensures c.cut.new.self.entries)

pub invariant_of-self-in_default : goal.invariant_of-self-in_default
invariant_of-self-in_default c = (search rules, c.clear.ensures c.cut.new.self.entries)

pub invariant_of-self-else-not-is_empty : goal.invariant_of-self-else-not-is_empty
invariant_of-self-else-not-is_empty c =
    let has = rw c.in-Some.is at c.self.invariant.0 in (
      rw (c.in-Some.is, c.cut.ensures.entries)
          (table_bare c.in-Some.table (λ (e : Entry). not (is_before c.args.to e.optime)) c.self.inside.log.entries (c.is_empty.ensures c.if-not-is_empty.false) has),
      c.clear.ensures c.cut.new.self.entries,
    )
