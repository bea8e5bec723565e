use Rattle.std.proofs.Common.{◌≡◌, ◌∙◌, ◌++◌, ◌<◌, ap, sym, subst, refl, arith, length, take, drop, List}
use Rattle.std.proofs.lemmas.Bool.Decides.{nat_tests}
use Rattle.std.proofs.lemmas.List.{take_at}
use Rattle.bson_doc.proofs.BindLemmas.{on_ok_both}
use Rattle.version_store.specs.Shards.{Shard}
use Rattle.version_store.specs.Store.{Store, AreShards}
use Rattle.batch_applier.specs.Parts.{IsBegun, IsEachReady, EachOf}
use Rattle.batch_applier.proofs.PastLemmas.{after_err}
use Rattle.batch_applier.proofs.BatchLemmas.{all_there, batch_ready, shards_kept, batch_applied, batch_undone, head_is}
use Rattle.batch_applier.proofs.batch.apply_batch.Goals as goal

pub apply_to-done-requires-clause-ready : goal.apply_to-done-requires-clause-ready
apply_to-done-requires-clause-ready g c κs within =
    let old : c.deref_mut.result.now ≡ c.args.store.now.shards = c.deref_mut.ensures.value ∙ c.take_shards-shards.ensures.taken in
    let some : 0 < length c.args.store.now.shards = rw (← old) (grind (arith, nat_tests, c.if-is_empty.ensures, c.deref_mut.ensures.len)) in
    let are : AreShards c.args.store.now.count c.args.store.now.shards = all_there c.args.store.now.count c.args.store.now.shards (rw c.take_shards-shards.ensures.taken at c.take_shards-shards.ensures.whole) some in
    subst (λ shards. IsEachReady shards c.args.entries.now) (sym old) (batch_ready c.args.store.now.count c.args.store.now.shards c.args.entries.now are c.requires.batch)

pub apply_to-done-requires-clause-count : goal.apply_to-done-requires-clause-count
apply_to-done-requires-clause-count g c κs within =
    let old : c.deref_mut.result.now ≡ c.args.store.now.shards = c.deref_mut.ensures.value ∙ c.take_shards-shards.ensures.taken in
    let some : 0 < length c.args.store.now.shards = rw (← old) (grind (arith, nat_tests, c.if-is_empty.ensures, c.deref_mut.ensures.len)) in
    let are : AreShards c.args.store.now.count c.args.store.now.shards = all_there c.args.store.now.count c.args.store.now.shards (rw c.take_shards-shards.ensures.taken at c.take_shards-shards.ensures.whole) some in
    (c.shard_count-count.ensures.some, ap (λ (xs : List Shard). length xs) old ∙ are.long ∙ sym c.shard_count-count.ensures.count)

pub put_back-requires : goal.put_back-requires
put_back-requires g c =
    let old : c.deref_mut.result.now ≡ c.args.store.now.shards = c.deref_mut.ensures.value ∙ c.take_shards-shards.ensures.taken in
    let some : 0 < length c.args.store.now.shards = rw (← old) (grind (arith, nat_tests, c.if-is_empty.ensures, c.deref_mut.ensures.len)) in
    let are : AreShards c.args.store.now.count c.args.store.now.shards = all_there c.args.store.now.count c.args.store.now.shards (rw c.take_shards-shards.ensures.taken at c.take_shards-shards.ensures.whole) some in
    let begun : EachOf IsBegun c.args.store.now.shards c.apply_to-done.new.shards c.args.entries.now = rw old at c.apply_to-done.ensures.begun in
    let kept = shards_kept c.args.store.now.count c.args.store.now.shards c.apply_to-done.new.shards c.args.entries.now are begun in
    let long : c.take_shards-shards.result.len ≡ length c.apply_to-done.new.shards = omega (arith, c.deref_mut.ensures.len, c.apply_to-done.ensures.begun.long) in
    let whole : take c.take_shards-shards.result.len (c.apply_to-done.new.shards ++ drop (length c.apply_to-done.new.shards) c.take_shards-shards.result.items) ≡ c.apply_to-done.new.shards = rw long (take_at c.apply_to-done.new.shards _ _ refl) in
    let same : c.take_shards-shards.new.self.count ≡ c.args.store.now.count = ap (λ (s : Store). s.count) c.take_shards-shards.ensures.left in
    rw (same, whole) kept

pub returns-clause-err : goal.returns-clause-err
returns-clause-err g c =
    let old : c.deref_mut.result.now ≡ c.args.store.now.shards = c.deref_mut.ensures.value ∙ c.take_shards-shards.ensures.taken in
    let some : 0 < length c.args.store.now.shards = rw (← old) (grind (arith, nat_tests, c.if-is_empty.ensures, c.deref_mut.ensures.len)) in
    let are : AreShards c.args.store.now.count c.args.store.now.shards = all_there c.args.store.now.count c.args.store.now.shards (rw c.take_shards-shards.ensures.taken at c.take_shards-shards.ensures.whole) some in
    let begun : EachOf IsBegun c.args.store.now.shards c.apply_to-done.new.shards c.args.entries.now = rw old at c.apply_to-done.ensures.begun in
    let kept = shards_kept c.args.store.now.count c.args.store.now.shards c.apply_to-done.new.shards c.args.entries.now are begun in
    let long : c.take_shards-shards.result.len ≡ length c.apply_to-done.new.shards = omega (arith, c.deref_mut.ensures.len, c.apply_to-done.ensures.begun.long) in
    let whole : take c.take_shards-shards.result.len (c.apply_to-done.new.shards ++ drop (length c.apply_to-done.new.shards) c.take_shards-shards.result.items) ≡ c.apply_to-done.new.shards = rw long (take_at c.apply_to-done.new.shards _ _ refl) in
    let same : c.take_shards-shards.new.self.count ≡ c.args.store.now.count = ap (λ (s : Store). s.count) c.take_shards-shards.ensures.left in
    let head = head_is c.args.entries.now c.in-Some.first.now c.in-Some.ensures.value in
    after_err c.put_back.result
    (λ back. batch_undone c.args.store.now.count c.args.store.now.shards c.apply_to-done.new.shards c.put_back.new.store c.in-Some.first.now (drop 1 c.args.entries.now) c.args.entries.now head are kept c.requires.batch begun back)
    (rw (same, whole) at c.put_back.ensures.err)

pub returns-clause-ok : goal.returns-clause-ok
returns-clause-ok g c =
    let old : c.deref_mut.result.now ≡ c.args.store.now.shards = c.deref_mut.ensures.value ∙ c.take_shards-shards.ensures.taken in
    let some : 0 < length c.args.store.now.shards = rw (← old) (grind (arith, nat_tests, c.if-is_empty.ensures, c.deref_mut.ensures.len)) in
    let are : AreShards c.args.store.now.count c.args.store.now.shards = all_there c.args.store.now.count c.args.store.now.shards (rw c.take_shards-shards.ensures.taken at c.take_shards-shards.ensures.whole) some in
    let begun : EachOf IsBegun c.args.store.now.shards c.apply_to-done.new.shards c.args.entries.now = rw old at c.apply_to-done.ensures.begun in
    let kept = shards_kept c.args.store.now.count c.args.store.now.shards c.apply_to-done.new.shards c.args.entries.now are begun in
    let long : c.take_shards-shards.result.len ≡ length c.apply_to-done.new.shards = omega (arith, c.deref_mut.ensures.len, c.apply_to-done.ensures.begun.long) in
    let whole : take c.take_shards-shards.result.len (c.apply_to-done.new.shards ++ drop (length c.apply_to-done.new.shards) c.take_shards-shards.result.items) ≡ c.apply_to-done.new.shards = rw long (take_at c.apply_to-done.new.shards _ _ refl) in
    let same : c.take_shards-shards.new.self.count ≡ c.args.store.now.count = ap (λ (s : Store). s.count) c.take_shards-shards.ensures.left in
    on_ok_both c.put_back.result
    (λ put done. rw put (batch_applied c.args.store.now.count c.args.store.now.shards c.apply_to-done.new.shards c.args.entries.now are kept (rw old at done)))
    (rw (same, whole) at c.put_back.ensures.ok) (rw (← c.put_back.ensures.same) at c.apply_to-done.ensures.ok)
