use Rattle.std.proofs.Common.{◌≡◌, ◌∙◌, ◌<◌, ℕ, List, length, ap, arith, rules}
use Rattle.std.specs.Prelude.{Vec, slice_index}
use Rattle.std.specs.declared.alloc.Global.{Global}
use Rattle.std.proofs.lemmas.List.{length-map}
use Rattle.record_file.proofs.ItemLemmas.{item_at}
use Rattle.checkpoint_store.specs.Layout.{record_bytes}
use Rattle.checkpoint_store.specs.Spelled.{IsRecord}
use Rattle.checkpoint_store.proofs.MarkedLemmas.{first_is, some_bytes}
use Rattle.checkpoint_store.proofs.marked.last_in.Goals as goal

pub index-requires : goal.index-requires
index-requires c =
    let found = item_at IsRecord record_bytes c.args.pieces.now c.requires.0 c.loop-place.place c.index-pieces-place.result c.requires.1 c.requires.2 c.loop-place-test.true in
    let bytes : c.index-pieces-place.result.items ≡ record_bytes found.0 = ap (λ (v : Vec ℕ Global). v.items) c.index-pieces-place.is ∙ found.2 in
    let some = some_bytes found.0 in
    let long : length c.index-pieces-place.result.items ≡ length (record_bytes found.0) = ap length bytes in
    search (rules, some, long)

pub loop-place-preserved : goal.loop-place-preserved
loop-place-preserved c = λ records each same.
    let found = item_at IsRecord record_bytes c.args.pieces.now records c.loop-place.place c.index-pieces-place.result each same c.loop-place-test.true in
    let bytes : c.index-pieces-place.result.items ≡ record_bytes found.0 = ap (λ (v : Vec ℕ Global). v.items) c.index-pieces-place.is ∙ found.2 in
    let some : 0 < length c.index-pieces-place.result.items = omega (arith, ap length bytes, some_bytes found.0) in
    c.with-found.ensures records found.0 (c.index.ensures ∙ first_is _ _ some ∙ ap (λ (l : List ℕ). slice_index l 0) bytes)
    (omega (arith, c.loop-place-test.true, ap length same, length-map c.args.pieces.now (λ (v : Vec ℕ Global). v.items), length-map records record_bytes)) found.3 (c.loop-place.invariant records each same)
