use Rattle.std.proofs.Common.{not, rules}
use Rattle.std.proofs.lemmas.List.Sorted.{IsPartitionPoint-from_clause}
use Rattle.version_store.specs.Past.{is_before}
use Rattle.version_store.proofs.HistoryLemmas.{versions_parted, parted_by, up_to_is, after_is}
use Rattle.version_store.proofs.history.count_up_to.Goals as goal

pub returns-clause-up_to : goal.returns-clause-up_to
returns-clause-up_to c =
    up_to_is c.args.at c.args.versions.now c.partition_point.result
    (parted_by c.args.versions.now c.args.at c.partition_point.result c.partition_point.ensures.bound
    (IsPartitionPoint-from_clause (λ version. not (is_before c.args.at version.at)) c.args.versions.now c.partition_point.result c.partition_point.ensures.partitioned
    (versions_parted _ c.args.at c.requires) (λ a r f' k. search rules)))

pub returns-clause-later_than : goal.returns-clause-later_than
returns-clause-later_than c =
    after_is c.args.at c.args.versions.now c.partition_point.result
    (parted_by c.args.versions.now c.args.at c.partition_point.result c.partition_point.ensures.bound
    (IsPartitionPoint-from_clause (λ version. not (is_before c.args.at version.at)) c.args.versions.now c.partition_point.result c.partition_point.ensures.partitioned
    (versions_parted _ c.args.at c.requires) (λ a r f' k. search rules)))
