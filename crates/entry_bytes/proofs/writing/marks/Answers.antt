use Rattle.std.proofs.Common.{◌+◌, true, refl, ap, sym, ◌∙◌, arith}
use Rattle.bson_doc.specs.Tree.{trees_from, boolean}
use Rattle.bson_doc.proofs.DocLemmas.{trees_from-zero, trees_from-end}
use Rattle.oplog_entry.specs.Walk.{join}
use Rattle.oplog_entry.proofs.WalkLemmas.{join-nothing, join-with_field}
use Rattle.entry_bytes.specs.Layout.{marks}
use Rattle.entry_bytes.proofs.MarkLemmas.{string_at, marks-next, next_mark}
use Rattle.entry_bytes.proofs.writing.marks.Goals as goal

pub loop-place-init : goal.loop-place-init
loop-place-init c = rw (c.new-marks.ensures, trees_from-zero) refl

pub unreachable-requires : goal.unreachable-requires
unreachable-requires c =
    let string = string_at c.args.unsets.now c.loop-place.place c.requires (omega arith) in c.in_default.ensures string.0 string.1 string.2

pub append-requires-clause-clean : goal.append-requires-clause-clean
append-requires-clause-clean c =
    let rest = marks (trees_from (c.loop-place.place + 1) c.args.unsets.now) in
    let so_far = marks-next c.args.unsets.now c.loop-place.place c.loop-place.marks _ c.in_ok-copy.field-0 _ c.in-Some.ensures c.in_ok-copy.ensures c.loop-place.invariant in
    (next_mark c.args.unsets.now c.loop-place.marks c.in_ok-copy.field-0 rest c.requires so_far).0

pub append-requires-clause-new : goal.append-requires-clause-new
append-requires-clause-new c =
    let rest = marks (trees_from (c.loop-place.place + 1) c.args.unsets.now) in
    let so_far = marks-next c.args.unsets.now c.loop-place.place c.loop-place.marks _ c.in_ok-copy.field-0 _ c.in-Some.ensures c.in_ok-copy.ensures c.loop-place.invariant in
    (next_mark c.args.unsets.now c.loop-place.marks c.in_ok-copy.field-0 rest c.requires so_far).1

pub loop-place-preserved : goal.loop-place-preserved
loop-place-preserved c =
    let rest = marks (trees_from (c.loop-place.place + 1) c.args.unsets.now) in
    let so_far = marks-next c.args.unsets.now c.loop-place.place c.loop-place.marks _ c.in_ok-copy.field-0 _ c.in-Some.ensures c.in_ok-copy.ensures c.loop-place.invariant in
    ap (λ f. join f rest) c.in_ok-append.ensures.ok
    ∙ join-with_field c.loop-place.marks c.in_ok-copy.field-0 (boolean true) rest
    ∙ so_far

pub returns : goal.returns
returns c =
    let past = trees_from-end c.args.unsets.now c.loop-place.place (omega (arith, c.len-place-end.ensures)) in
    sym (join-nothing c.loop-place.marks) ∙ ap (λ t. join c.loop-place.marks (marks t)) (sym past) ∙ c.loop-place.invariant
