use Rattle.std.proofs.Common.{◌≡◌, false}
use Rattle.bson_doc.specs.Tree.{fields_from}
use Rattle.doc_update.specs.Increment.{has_wrong_side, has_overflow, sums}
use Rattle.doc_update.specs.Ordered.{placed_all}
use Rattle.doc_update.proofs.increment.add_sums.Given as goal

abbrev pub invariant-loop-place : goal.invariant-loop-place
invariant-loop-place l =
    let done = fields_from l.place l.operands in
    record {
      typed : has_wrong_side l.document done ≡ false;
      flagged : has_overflow l.document done ≡ l.overflow;
      summed : l.overflow ≡ false → l.sets ≡ placed_all (sums l.document done) l.initial.sets;
    }
