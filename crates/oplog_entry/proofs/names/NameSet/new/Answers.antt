use Rattle.std.proofs.Common.{◌≡◌, ◌-◌, ◌+◌, true, List, ℕ, ap, cond, sym, ◌∙◌, arith}
use Rattle.std.proofs.lemmas.Grind.{common_steps}
use Rattle.std.specs.Ordering.{nat_cmp, is_eq}
use Rattle.std.specs.BTreeSet.{contains}
use Rattle.std.specs.Cmp.Lexicographic.{slice_cmp}
use Rattle.bson_doc.specs.Tree.{trees_from, item, text}
use Rattle.bson_doc.specs.View.{tree_of}
use Rattle.oplog_entry.specs.Lawful.{is_among}
use Rattle.oplog_entry.specs.Step.{strings_of}
use Rattle.oplog_entry.proofs.IndexLemmas.{strings-init, strings-step}
use Rattle.bson_doc.proofs.DocLemmas.{trees_from-zero}
use Rattle.oplog_entry.proofs.names.NameSet.new.Goals as goal

pub loop-place-init : goal.loop-place-init
loop-place-init c = λ q. rw c.len-place.ensures (let none = c.new-names.ensures.empty in let all = strings-init c.args.values.now q in grind (arith, common_steps))

pub loop-place-preserved-in-Text-1 : goal.loop-place-preserved-in-Text-1
loop-place-preserved-in-Text-1 c = λ q.
    let place = c.loop-place.place - 1 in
    let next : place + 1 ≡ c.loop-place.place = omega arith in
    let rest = trees_from c.loop-place.place c.args.values.now in
    let before = contains (slice_cmp nat_cmp) c.loop-place.names q in
    let here : trees_from place c.args.values.now ≡ item (text c.in-Some-Text.name) rest =
    rw next at c.in-Some-Text.ensures ∙ ap (λ v. item (tree_of v) rest) c.in-Some-Text.field-0-is in
    strings-step c.in-Some-Text.name q rest before _ (c.in_ok-insert.ensures.updates.0 q ∙ ap (λ (k : List ℕ). cond (is_eq (slice_cmp nat_cmp k q)) true before) c.in_ok-copy.ensures) (c.loop-place.invariant q)
    ∙ ap (λ t. is_among q (strings_of t)) (sym here)

pub invariant_of-result : goal.invariant_of-result
invariant_of-result c = λ q.
    let first : c.loop-place.place ≡ 0 = omega arith in
    c.loop-place.invariant q ∙ ap (λ n. is_among q (strings_of (trees_from n c.args.values.now))) first ∙ ap (λ t. is_among q (strings_of t)) (trees_from-zero c.args.values.now)
