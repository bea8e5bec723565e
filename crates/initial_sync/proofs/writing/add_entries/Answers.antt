use Rattle.std.proofs.Common.{◌≡◌, ◌<◌, length, ap, arith, sym, subst, length-drop}
use Rattle.std.specs.List.{All}
use Rattle.std.proofs.lemmas.List.Elements.{All-drop, All-take}
use Rattle.oplog_entry.specs.Lawful.{IsLawful}
use Rattle.entry_bytes.specs.Sizes.{IsWithinEntry}
use Rattle.node_journal.specs.Bounds.{CanBeKept}
use Rattle.initial_sync.specs.Missing.{BATCH}
use Rattle.initial_sync.proofs.WritingLemmas.{added_fails, added_more, added_none, added_stops, added_whole, next_added}
use Rattle.initial_sync.proofs.writing.add_entries.Goals as goal
use Rattle.record_file.proofs.KeepsLemmas.{keeps_not}

pub loop-rest-init : goal.loop-rest-init
loop-rest-init g c = record { added = added_none _ _ c.requires.open; lawful = c.requires.lawful; within = c.requires.within }

pub batch-requires : goal.batch-requires
batch-requires g c = rw c.next_piece.ensures.piece (All-take IsLawful 2000 c.loop-rest.rest.now c.loop-rest.invariant.lawful)

pub returns-in_err-batch-clause-any_moment : goal.returns-in_err-batch-clause-any_moment
returns-in_err-batch-clause-any_moment g c = λ items before. added_stops _ _ _ _ c.loop-rest.invariant.added items before

pub add-requires-clause-bounds : goal.add-requires-clause-bounds
add-requires-clause-bounds g c =
    let within : All IsWithinEntry c.next_piece.result.0.now = rw c.next_piece.ensures.piece (All-take IsWithinEntry 2000 c.loop-rest.rest.now c.loop-rest.invariant.within) in
    subst CanBeKept (sym c.in_ok-batch.ensures) (c.next_piece.ensures.few, within)

pub returns-in_err-add-clause-any_moment : goal.returns-in_err-add-clause-any_moment
returns-in_err-add-clause-any_moment g c =
    let some : 0 < length c.loop-rest.rest.now = grind arith in
    λ items before. added_fails c.in_ok-batch.field-0 _ _ _ _ _
    (next_added c.loop-rest.rest.now c.next_piece.result.0.now c.next_piece.result.1.now c.in_ok-batch.field-0 _ _ _ c.next_piece.ensures.piece c.next_piece.ensures.rest c.in_ok-batch.ensures some c.loop-rest.invariant.added)
    c.in_err-add.ensures.any_moment items before

pub loop-rest-smaller : goal.loop-rest-smaller
loop-rest-smaller g c =
    let some : 0 < length c.loop-rest.rest.now = grind arith in
    omega (arith, some, ap length c.next_piece.ensures.rest, length-drop BATCH c.loop-rest.rest.now)

pub loop-rest-preserved : goal.loop-rest-preserved
loop-rest-preserved g c =
    let some : 0 < length c.loop-rest.rest.now = grind arith in record {
      added = added_more c.in_ok-batch.field-0 _ _ _ _ _
          (next_added c.loop-rest.rest.now c.next_piece.result.0.now c.next_piece.result.1.now c.in_ok-batch.field-0 _ _ _ c.next_piece.ensures.piece c.next_piece.ensures.rest c.in_ok-batch.ensures some c.loop-rest.invariant.added)
          c.in_ok-add.ensures.ok c.in_ok-add.ensures.any_moment (keeps_not _ _ (λ is. cc) c.in_ok-add.ensures.keeps) c.in_ok-add.ensures.open;
      lawful = rw c.next_piece.ensures.rest (All-drop IsLawful 2000 c.loop-rest.rest.now c.loop-rest.invariant.lawful);
      within = rw c.next_piece.ensures.rest (All-drop IsWithinEntry 2000 c.loop-rest.rest.now c.loop-rest.invariant.within);
    }

pub returns-clause-ok : goal.returns-clause-ok
returns-clause-ok g c =
    let none : length c.loop-rest.rest.now ≡ 0 = grind arith in
    λ items before. added_whole _ c.loop-rest.rest.now _ _ none c.loop-rest.invariant.added items before

pub returns-clause-any_moment : goal.returns-clause-any_moment
returns-clause-any_moment g c = λ items before. added_stops _ _ _ _ c.loop-rest.invariant.added items before
