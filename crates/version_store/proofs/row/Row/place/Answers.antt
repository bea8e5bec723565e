use Rattle.std.proofs.Common.{◌∙◌, sym, arith, rules}
use Rattle.std.specs.Ordering.{is_lt}
use Rattle.std.proofs.lemmas.List.Sorted.{IsPartitionPoint-from_clause}
use Rattle.bson_doc.specs.Key.{key_cmp}
use Rattle.version_store.proofs.RowLemmas.{after_none, found_at, missing_at, missing_past, parted_keys}
use Rattle.version_store.proofs.row.Row.place.Goals as goal

pub returns-then-comes_after-clause-found : goal.returns-then-comes_after-clause-found
returns-then-comes_after-clause-found c = after_none c.args.self.now c.args.id.now (c.comes_after.ensures.after c.if-comes_after.true)

pub returns-then-comes_after-clause-order : goal.returns-then-comes_after-clause-order
returns-then-comes_after-clause-order c = c.comes_after.ensures.order

pub returns-then-place-len-clause-found : goal.returns-then-place-len-clause-found
returns-then-place-len-clause-found c =
    let parts = IsPartitionPoint-from_clause (λ entry. is_lt (key_cmp entry.0 c.args.id.now)) c.deref.result.now c.partition_point-place.result
    c.partition_point-place.ensures.partitioned (rw c.deref.ensures.value (parted_keys _ c.args.id.now c.self.invariant)) (λ a r f' k. search rules) in
    rw (← c.self.view_is)
    (missing_past c.self.inside.entries.items c.args.id.now c.partition_point-place.result c.self.invariant (rw c.deref.ensures.value at parts.0) (omega arith))

pub returns-in-Equal-clause-found : goal.returns-in-Equal-clause-found
returns-in-Equal-clause-found c =
    rw (← c.self.view_is)
    (found_at c.self.inside.entries.items c.args.id.now c.partition_point-place.result c.index.result.now (omega arith) c.index.ensures (sym c.by_key.ensures ∙ c.in-Equal.is))

pub returns-in_default-clause-found : goal.returns-in_default-clause-found
returns-in_default-clause-found c =
    let parts = IsPartitionPoint-from_clause (λ entry. is_lt (key_cmp entry.0 c.args.id.now)) c.deref.result.now c.partition_point-place.result
    c.partition_point-place.ensures.partitioned (rw c.deref.ensures.value (parted_keys _ c.args.id.now c.self.invariant)) (λ a r f' k. search rules) in
    rw (← c.self.view_is)
    (missing_at c.self.inside.entries.items c.args.id.now c.partition_point-place.result c.index.result.now c.self.invariant (rw c.deref.ensures.value at parts.0)
    (rw c.deref.ensures.value at parts.1) (omega arith) c.index.ensures (λ tie. c.in_default.not-Equal (c.by_key.ensures ∙ tie)))
