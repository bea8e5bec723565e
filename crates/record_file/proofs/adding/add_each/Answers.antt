use Rattle.std.proofs.Common.{◌≡◌, ◌∙◌, ◌+◌, ◌≤◌, ℕ, length, ap, arith, rules, vec_capacity, Err, Ok}
use Rattle.std.specs.Prelude.{◌≢◌, Vec, slice_index_or}
use Rattle.std.specs.declared.alloc.Global.{Global}
use Rattle.std.proofs.lemmas.List.Sums.{sum_by_more, sum_by_more_le}
use Rattle.rs_disk.specs.File.{contents}
use Rattle.record_file.specs.declared.error.FileError.TheVariants.{Memory}
use Rattle.record_file.proofs.AddingLemmas.{adds_more, adds_stop, opens_more, size_of, stops_here}
use Rattle.record_file.proofs.KeepsLemmas.{keeps_not, keeps_then}
use Rattle.record_file.proofs.adding.add_each.Goals as goal

pub returns-in_err-add-clause-calls : goal.returns-in_err-add-clause-calls
returns-in_err-add-clause-calls g c =
    let pieces = c.args.pieces.now in
    let i = c.loop-piece.piece-index in
    let item = c.piece-item.result in
    let before = c.loop-piece.invariant in
    let piece : c.deref.result.now ≡ (slice_index_or pieces i item).items = c.deref.ensures.value ∙ ap (λ (v : Vec ℕ Global). v.items) c.piece-item.is in
    let fault : c.from_residual.result ≡ Err c.in_err-add.field-0.0 = search rules in
    let fits : size_of (slice_index_or pieces i item) ≤ vec_capacity c.args.buffer.now = c.requires.longest i item c.loop-piece-test.true in
    let not_memory : c.add.result ≢ Err Memory = c.add.ensures.room (omega (arith, fits, ap length piece, before.capacity))
    (omega (arith, ap length piece, before.long, before.keeps.room, c.requires.together, sum_by_more_le size_of pieces i item c.loop-piece-test.true)) in
    adds_stop _ pieces i item c.loop-piece-test.true _ _ _ before.made before.long c.from_residual.result c.add.result c.in_err-add.field-0.0 fault c.in_err-add.was not_memory
    (stops_here c.add.result _ _ _ _ _ piece c.add.ensures.calls)

pub loop-piece-preserved : goal.loop-piece-preserved
loop-piece-preserved g c =
    let pieces = c.args.pieces.now in
    let i = c.loop-piece.piece-index in
    let item = c.piece-item.result in
    let before = c.loop-piece.invariant in
    let piece : c.deref.result.now ≡ (slice_index_or pieces i item).items = c.deref.ensures.value ∙ ap (λ (v : Vec ℕ Global). v.items) c.piece-item.is in
    let longer : length (contents (g.D.Disk.state c.add.new.disk).file) ≡ length (contents (g.D.Disk.state c.loop-piece.disk).file) + (length c.deref.result.now + 5) = c.in_ok-add.ensures.longer in
    record {
      made = adds_more _ pieces i item c.loop-piece-test.true _ _ _ before.made before.long (stops_here {T = Unit {0}} (Ok tt) _ _ _ _ _ piece c.in_ok-add.ensures.calls);
      long = omega (arith, longer, ap length piece, before.long, sum_by_more size_of pieces i item c.loop-piece-test.true);
      is_open = opens_more _ _ _ (omega (arith, ap length piece, c.requires.short i item c.loop-piece-test.true)) (stops_here {T = Unit {0}} (Ok tt) _ _ _ _ _ piece c.in_ok-add.ensures.calls) before.is_open;
      keeps = keeps_then _ _ _ before.keeps (keeps_not _ _ (λ is. cc) c.in_ok-add.ensures.keeps);
      capacity = omega (arith, before.capacity, c.in_ok-add.ensures.capacity);
    }
