use Rattle.std.proofs.Common.{rules}
use Rattle.std.proofs.lemmas.List.Sorted.{IsPartitionPoint-from_clause}
use Rattle.rs_optime.proofs.PartLemmas.{take_is_filter}
use Rattle.version_store.specs.Past.{is_before}
use Rattle.version_store.proofs.HistoryLemmas.{before_parted}
use Rattle.version_store.proofs.history.count_before.Goals as goal

pub returns-clause-before : goal.returns-clause-before
returns-clause-before c =
    let parts = IsPartitionPoint-from_clause (λ version. is_before version.at c.args.at) c.args.versions.now c.partition_point.result c.partition_point.ensures.partitioned
    (before_parted _ c.args.at c.requires) (λ a r f' k. search rules) in
    take_is_filter (λ version. is_before version.at c.args.at) c.args.versions.now c.partition_point.result parts.0 parts.1
