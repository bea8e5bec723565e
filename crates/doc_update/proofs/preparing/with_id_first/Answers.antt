use Rattle.std.proofs.Common.{◌≡◌, ◌+◌, [], ◌∷◌, codes, ap, sym, ◌∙◌, arith}
use Rattle.std.proofs.lemmas.Grind.{common_steps}
use Rattle.bson_doc.specs.Tree.{no_fields, field, fields_from}
use Rattle.bson_doc.specs.View.{tree_of}
use Rattle.bson_doc.proofs.DocLemmas.{fields_from-zero, fields_from-end}
use Rattle.oplog_entry.specs.Walk.{join, staying}
use Rattle.oplog_entry.proofs.WalkLemmas.{join-nothing, staying-next, staying-step, named}
use Rattle.doc_update.proofs.IdLemmas.{others-without, IsDocument-id_first}
use Rattle.doc_update.proofs.preparing.with_id_first.Goals as goal

pub loop-place-init : goal.loop-place-init
loop-place-init c =
    let id = codes "_id" ∷ [] in
    let first = fields_from-zero c.args.doc.now in
    let start : c.append.new.self ≡ field (codes "_id") (tree_of c.args.id.now) no_fields = grind (arith, common_steps) in
    ap (λ f. join f (staying id no_fields (fields_from 0 c.args.doc.now))) start ∙ ap (λ f. field (codes "_id") (tree_of c.args.id.now) (staying id no_fields f)) first

pub append_other-requires-clause-clean : goal.append_other-requires-clause-clean
append_other-requires-clause-clean c =
    let id = codes "_id" ∷ [] in
    let out = c.loop-place.whole in
    let so_far = named (λ f. join out (staying id no_fields f)) _ _ _ _ c.in_ok-from_str-2.field-0 _ c.in-Some.ensures c.in_ok-from_str-2.ensures c.loop-place.invariant in
    λ stays. (staying-next id no_fields out (fields_from (c.loop-place.place + 1) c.args.doc.now) _ c.in_ok-from_str-2.field-0 (tree_of c.in-Some.value.now) so_far (IsDocument-id_first (tree_of c.args.id.now) c.args.doc.now c.recall_sound.ensures.0) stays).0

pub append_other-requires-clause-new : goal.append_other-requires-clause-new
append_other-requires-clause-new c =
    let id = codes "_id" ∷ [] in
    let out = c.loop-place.whole in
    let so_far = named (λ f. join out (staying id no_fields f)) _ _ _ _ c.in_ok-from_str-2.field-0 _ c.in-Some.ensures c.in_ok-from_str-2.ensures c.loop-place.invariant in
    λ stays. (staying-next id no_fields out (fields_from (c.loop-place.place + 1) c.args.doc.now) _ c.in_ok-from_str-2.field-0 (tree_of c.in-Some.value.now) so_far (IsDocument-id_first (tree_of c.args.id.now) c.args.doc.now c.recall_sound.ensures.0) stays).1

pub loop-place-preserved : goal.loop-place-preserved
loop-place-preserved c =
    let id = codes "_id" ∷ [] in
    let out = c.loop-place.whole in
    let so_far = named (λ f. join out (staying id no_fields f)) _ _ _ _ c.in_ok-from_str-2.field-0 _ c.in-Some.ensures c.in_ok-from_str-2.ensures c.loop-place.invariant in
    let rest = fields_from (c.loop-place.place + 1) c.args.doc.now in
    ap (λ f. join f (staying id no_fields rest)) c.in_ok-append_other.ensures
    ∙ staying-step id no_fields out rest c.in_ok-from_str-2.field-0 (tree_of c.in-Some.value.now)
    ∙ so_far

pub returns : goal.returns
returns c =
    let past = fields_from-end c.args.doc.now c.loop-place.place (omega (arith, c.len-place-end.ensures.count)) in
    sym (join-nothing c.loop-place.whole) ∙ ap (λ f. join c.loop-place.whole (staying (codes "_id" ∷ []) no_fields f)) (sym past) ∙ c.loop-place.invariant
    ∙ ap (λ f. field (codes "_id") (tree_of c.args.id.now) f) (others-without c.args.doc.now c.recall_sound.ensures.0)
