use Rattle.std.proofs.Common.{◌≡◌, ◌+◌, ◌-◌, ℕ, List, Some, cond, ap, ◌∙◌, arith}
use Rattle.std.proofs.lemmas.Grind.{common_steps}
use Rattle.std.specs.Ordering.{nat_cmp, is_eq}
use Rattle.std.specs.BTreeMap.{get}
use Rattle.std.specs.Cmp.Lexicographic.{slice_cmp}
use Rattle.bson_doc.specs.Tree.{found, fields_from}
use Rattle.oplog_entry.proofs.IndexLemmas.{index-init, index-step}
use Rattle.bson_doc.proofs.DocLemmas.{fields_from-zero}
use Rattle.oplog_entry.proofs.index.places_of.Goals as goal

pub loop-place-init : goal.loop-place-init
loop-place-init c = λ q. rw c.len-place.ensures.count (index-init c.args.document.now q _ (search common_steps))

pub loop-place-preserved : goal.loop-place-preserved
loop-place-preserved c = λ q.
    let place = c.loop-place.place - 1 in
    let before = get (slice_cmp nat_cmp) c.loop-place.places q in
    let here = c.in-Some.ensures in
    let next : place + 1 ≡ c.loop-place.place = omega arith in
    index-step c.args.document.now place c.in-Some.name.now q _ _ before _ (rw next at here)
    (c.in_ok-insert.ensures.updates.0 q ∙ ap (λ (k : List ℕ). cond (is_eq (slice_cmp nat_cmp k q)) (Some place) before) c.in_ok-from_str.ensures)
    (c.loop-place.invariant q)

pub returns : goal.returns
returns c = λ q.
    let first : c.loop-place.place ≡ 0 = omega arith in
    c.loop-place.invariant q ∙ ap (λ n. found q (fields_from n c.args.document.now)) first ∙ ap (found q) (fields_from-zero c.args.document.now)
