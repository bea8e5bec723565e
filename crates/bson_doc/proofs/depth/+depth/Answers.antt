use Rattle.std.proofs.Common.{◌≤◌, arith}
use Rattle.bson_doc.specs.Tree.{count, items_count}
use Rattle.bson_doc.proofs.DocLemmas.{fields_from-end, trees_from-end}
use Rattle.bson_doc.proofs.depth.+depth.Goals as goal

pub levels-returns : goal.levels-returns
levels-returns t c =
    let past : count c.args.document.now ≤ c.loop-place.place = omega arith in
    let known = rw (fields_from-end c.args.document.now c.loop-place.place past) at c.loop-place.invariant.0 in
    omega (arith, known)

pub item_levels-returns : goal.item_levels-returns
item_levels-returns t c =
    let past : items_count c.args.items.now ≤ c.loop-place.place = omega arith in
    let known = rw (trees_from-end c.args.items.now c.loop-place.place past) at c.loop-place.invariant.0 in
    omega (arith, known)
