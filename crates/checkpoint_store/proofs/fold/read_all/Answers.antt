use Rattle.std.proofs.Common.{◌≡◌, ◌∙◌, ℕ, length, take, ap, arith}
use Rattle.std.specs.Prelude.{Vec}
use Rattle.std.specs.declared.alloc.Global.{Global}
use Rattle.record_file.proofs.ItemLemmas.{item_at, all_taken}
use Rattle.checkpoint_store.specs.Checkpoint.{SoFar, with_record}
use Rattle.checkpoint_store.specs.Layout.{record_bytes}
use Rattle.checkpoint_store.specs.Spelled.{IsRecord}
use Rattle.checkpoint_store.specs.Marked.{come_to}
use Rattle.checkpoint_store.proofs.LoopLemmas.{one_record_more}
use Rattle.checkpoint_store.proofs.fold.read_all.Goals as goal

pub with-requires : goal.with-requires
with-requires c =
    let found = item_at IsRecord record_bytes c.args.pieces.now c.requires.0 c.loop-piece.piece-index c.piece-item.result c.requires.1 c.requires.2 c.loop-piece-test.true in
    (found.0, record { lawful = found.1; spelled = c.deref.ensures.value ∙ ap (λ (v : Vec ℕ Global). v.items) c.piece-item.is ∙ found.2 })

pub loop-piece-preserved : goal.loop-piece-preserved
loop-piece-preserved c = λ records each same.
    let is = c.deref.ensures.value ∙ ap (λ (v : Vec ℕ Global). v.items) c.piece-item.is in
    let found = item_at IsRecord record_bytes c.args.pieces.now records c.loop-piece.piece-index c.piece-item.result each same c.loop-piece-test.true in
    c.in_ok-fold.ensures found.0 (record { lawful = found.1; spelled = is ∙ found.2 })
    ∙ ap (λ (s : SoFar). with_record s found.0) (c.loop-piece.invariant records each same)
    ∙ one_record_more records c.loop-piece.piece-index found.0 found.3

pub returns : goal.returns
returns c = λ records each same.
    let all : c.loop-piece.piece-index ≡ length c.args.pieces.now = omega (arith, c.loop-piece-test.false, c.loop-piece.auto.piece-index-end) in
    c.whole.ensures
    ∙ ap (λ (s : SoFar). s.whole) (c.loop-piece.invariant records each same ∙ ap (λ (n : ℕ). come_to (take n records)) all ∙ ap come_to (all_taken record_bytes c.args.pieces.now records same))
