use Rattle.std.proofs.Common.{◌<◌, ◌∙◌, length, ap, sym, subst, arith}
use Rattle.oplog_entry.specs.Lawful.{IsLawful}
use Rattle.oplog_entry.specs.declared.entry.Entry.{Entry}
use Rattle.doc_shelf.specs.Shelf.{IsOfFront, Shelf}
use Rattle.doc_shelf.proofs.ShelfLemmas.{of_count, one_more}
use Rattle.doc_shelf.proofs.shelf.Shelf.forth_to.Goals as goal

pub forth-requires : goal.forth-requires
forth-requires c =
    subst (λ (e : Entry). IsLawful e) (sym c.index-entries-place.is) (c.requires.lawful c.loop-place.place c.index-entries-place.result (omega arith))

pub loop-place-preserved : goal.loop-place-preserved
loop-place-preserved c =
    let entry = c.index-entries-place.result in
    let within : c.loop-place.place < length c.args.entries.now = omega arith in
    let more = one_more c.args.entries.now c.loop-place.self entry c.loop-place.place c.loop-place.invariant.0 c.loop-place.invariant.1 within c.index-entries-place.is in (
      subst (λ (s : Shelf). IsOfFront c.args.entries.now s) (sym c.in_ok-forth.ensures) more.0,
      more.1 ∙ ap (λ (s : Shelf). length s.before) (sym c.in_ok-forth.ensures),
      omega arith,
    )

pub returns-clause-shelf : goal.returns-clause-shelf
returns-clause-shelf c = of_count c.args.entries.now c.loop-place.self c.args.count c.loop-place.invariant.0 (omega arith)
