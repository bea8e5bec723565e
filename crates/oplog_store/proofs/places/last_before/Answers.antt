use Rattle.std.proofs.Common.{◌∙◌, ◌++◌, ap, rules, sym}
use Rattle.std.proofs.lemmas.List.Sorted.{IsPartitionPoint-from_clause}
use Rattle.oplog_entry.specs.Visible.{is_before, last_of}
use Rattle.oplog_store.specs.Places.{optime_of}
use Rattle.oplog_store.proofs.PlaceLemmas.{before_written, places_before_come_first}
use Rattle.oplog_store.proofs.places.last_before.Goals as goal

pub returns : goal.returns
returns c = λ settled is.
    let places = c.args.beyond.now.items in
    let parts = IsPartitionPoint-from_clause (λ place. is_before (optime_of place) c.args.at) places c.partition_point-count.result c.partition_point-count.ensures.partitioned
    (places_before_come_first places c.args.at c.requires) (λ a r f' k. search rules) in
    c.last_written.ensures settled is ∙ ap (λ rest. last_of (settled ++ rest)) (sym (before_written places c.partition_point-count.result c.args.at parts.0 parts.1))
