use Rattle.std.proofs.Common.{◌≡◌, ◌∙◌, ◌++◌, ap, refl, subst, arith, length, take, drop, vec_len}
use Rattle.std.proofs.lemmas.List.{take_at}
use Rattle.version_store.specs.Cuts.{left_by}
use Rattle.version_store.proofs.CutLemmas.{left_nothing}
use Rattle.version_store.proofs.StoreLemmas.{ChangedUpTo, changed_more, store_each}
use Rattle.version_store.proofs.store.VersionStore.cut.Goals as goal

pub loop-shard-preserved : goal.loop-shard-preserved
loop-shard-preserved c =
    changed_more _ c.loop-shard.shard-items (left_by c.args.cut) c.loop-shard.shard-index c.shard-item.result c.cut.new.self c.loop-shard.invariant (omega arith) c.cut.ensures

pub returns : goal.returns
returns c =
    let at_end : c.loop-shard.shard-index ≡ length c.self.inside.shards.items = rw (← c.deref_mut-shard-items.ensures.value) (omega arith) in
    let long : vec_len c.self.inside.shards ≡ length c.loop-shard.shard-items = omega (arith, c.deref_mut-shard-items.ensures.len, c.loop-shard.auto.shard-items) in
    let whole : take (vec_len c.self.inside.shards) (c.loop-shard.shard-items ++ drop (length c.loop-shard.shard-items) c.self.inside.shards.items) ≡ c.loop-shard.shard-items =
    ap (λ n. take n (c.loop-shard.shard-items ++ drop (length c.loop-shard.shard-items) c.self.inside.shards.items)) long ∙ take_at c.loop-shard.shard-items _ _ refl in
    rw (← c.self.view_is, whole)
    (store_each c.self.inside.count c.self.inside.shards.items c.loop-shard.shard-items (left_by c.args.cut) (left_nothing c.args.cut)
    (subst (λ n. ChangedUpTo c.self.inside.shards.items c.loop-shard.shard-items (left_by c.args.cut) n) at_end (rw c.deref_mut-shard-items.ensures.value at c.loop-shard.invariant)))
