use Rattle.std.proofs.Common.{refl, fold, ap, sym, ◌∙◌, arith}
use Rattle.bson_doc.specs.Tree.{without}
use Rattle.oplog_entry.specs.Step.{strings_of}
use Rattle.bson_doc.proofs.DocLemmas.{trees_from-zero, trees_from-end}
use Rattle.oplog_entry.proofs.change.take_out.Goals as goal

pub loop-place-init : goal.loop-place-init
loop-place-init c = rw trees_from-zero refl

pub returns : goal.returns
returns c =
    let past = trees_from-end c.args.names.now c.loop-place.place (omega (arith, c.len-place-end.ensures)) in
    ap (λ t. fold without c.loop-place.out (strings_of t)) (sym past) ∙ c.loop-place.invariant
