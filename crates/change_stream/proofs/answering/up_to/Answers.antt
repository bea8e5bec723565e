use Rattle.std.proofs.Common.{not, ap, rules, subst, sym}
use Rattle.std.proofs.lemmas.List.Sorted.{IsPartitionPoint-from_clause}
use Rattle.oplog_entry.specs.Log.{IsOplog}
use Rattle.oplog_entry.specs.Visible.{is_before}
use Rattle.oplog_store.proofs.LogLemmas.{entries_up_to_come_first, oplog_filter, split_at, take_is_filter}
use Rattle.change_stream.proofs.answering.up_to.Goals as goal

pub returns-clause-cut : goal.returns-clause-cut
returns-clause-cut c =
    let parts = split_at c.args.log.now c.args.at c.partition_point-count.result
    (IsPartitionPoint-from_clause (λ entry. not (is_before c.args.at entry.optime)) c.args.log.now c.partition_point-count.result c.partition_point-count.ensures.partitioned
    (entries_up_to_come_first _ c.args.at c.requires) (λ a r f' k. search rules)) in
    take_is_filter (λ entry. not (is_before c.args.at entry.optime)) c.args.log.now c.partition_point-count.result
    (λ k d one two. ap not (parts.0 k d one two)) (λ k d one two. ap not (parts.1 k d one two))

pub returns-clause-oplog : goal.returns-clause-oplog
returns-clause-oplog c =
    subst IsOplog (sym (returns-clause-cut c)) (oplog_filter (λ entry. not (is_before c.args.at entry.optime)) c.args.log.now c.requires)
