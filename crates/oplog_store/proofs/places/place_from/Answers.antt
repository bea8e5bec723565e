use Rattle.std.proofs.Common.{rules, nat_lt}
use Rattle.std.proofs.lemmas.List.Sorted.{IsPartitionPoint-from_clause, IsPartitionedBy-ltb}
use Rattle.oplog_store.specs.Places.{optime_of}
use Rattle.oplog_store.proofs.PlaceLemmas.{places_rise, split_places}
use Rattle.oplog_store.proofs.places.place_from.Goals as goal

pub returns-clause-front : goal.returns-clause-front
returns-clause-front c = λ rise.
    (split_places c.args.beyond.now.items c.args.ts c.partition_point.result
    (IsPartitionPoint-from_clause (λ place. nat_lt (optime_of place).ts c.args.ts) c.args.beyond.now.items c.partition_point.result c.partition_point.ensures.partitioned
    (IsPartitionedBy-ltb (λ place. (optime_of place).ts) _ c.args.ts (places_rise c.args.beyond.now.items rise)) (λ a r f' k. search rules))).0

pub returns-clause-back : goal.returns-clause-back
returns-clause-back c = λ rise.
    (split_places c.args.beyond.now.items c.args.ts c.partition_point.result
    (IsPartitionPoint-from_clause (λ place. nat_lt (optime_of place).ts c.args.ts) c.args.beyond.now.items c.partition_point.result c.partition_point.ensures.partitioned
    (IsPartitionedBy-ltb (λ place. (optime_of place).ts) _ c.args.ts (places_rise c.args.beyond.now.items rise)) (λ a r f' k. search rules))).1
