use Rattle.std.proofs.Common.{◌≡◌, arith, length, map, subst, take, List}
use Rattle.std.proofs.lemmas.List.{take_all}
use Rattle.initial_sync.specs.Pinned.{placed}
use Rattle.initial_sync.specs.declared.pinned.Kept1.{Kept1}
use Rattle.initial_sync.proofs.DocumentLemmas.{Stores, can_put_next, stores_all, stores_next}
use Rattle.initial_sync.proofs.documents.store_of.Goals as goal

pub put-requires : goal.put-requires
put-requires c =
    can_put_next c.args.at c.args.documents.now c.requires.0 c.requires.1 c.loop-one.one-index c.one-item.result c.loop-one-test.true c.one-item.is c.loop-one.store c.loop-one.invariant _
    (λ i. (c.in_ok-copy.ensures i, c.in_ok-copy-2.ensures i))

pub loop-one-preserved : goal.loop-one-preserved
loop-one-preserved c =
    stores_next c.args.at c.args.documents.now c.requires.0 c.requires.1 c.loop-one.one-index c.one-item.result c.loop-one-test.true c.one-item.is c.loop-one.store c.loop-one.invariant _
    (λ i. (c.in_ok-copy.ensures i, c.in_ok-copy-2.ensures i)) _ _ c.in_ok-copy-3.ensures c.in_ok-put.ensures.ok

pub returns : goal.returns
returns c = λ of is.
    let all : c.loop-one.one-index ≡ length c.args.documents.now = omega (arith, c.loop-one-test.false, c.loop-one.auto.one-index-end) in
    let whole : take c.loop-one.one-index c.args.documents.now ≡ c.args.documents.now = take_all c.loop-one.one-index c.args.documents.now (omega (arith, all)) in
    stores_all c.args.at of (map placed c.args.documents.now) c.loop-one.store is (subst (λ (l : List Kept1). Stores c.args.at (map placed l) c.loop-one.store) whole c.loop-one.invariant)
