use Rattle.std.proofs.Common.{◌≤◌, arith}
use Rattle.bson_doc.specs.Tree.{count, items_count}
use Rattle.bson_doc.proofs.DocLemmas.{fields_from-end, trees_from-end}
use Rattle.bson_doc.proofs.sizes.+size.Goals as goal

pub size_up_to-returns : goal.size_up_to-returns
size_up_to-returns t c =
    let past : count c.args.document.now ≤ c.loop-place.place = omega arith in
    let known = rw (fields_from-end c.args.document.now c.loop-place.place past) at c.loop-place.invariant.0 in
    omega (arith, known)

pub items_size-returns : goal.items_size-returns
items_size-returns t c =
    let past : items_count c.args.items.now ≤ c.loop-place.place = omega arith in
    let known = rw (trees_from-end c.args.items.now c.loop-place.place past) at c.loop-place.invariant.0 in
    omega (arith, known)
