use Rattle.std.proofs.Common.{◌≡◌, ℕ, List, [], ◌∷◌, ◌++◌, sym, subst, rules}
use Rattle.std.specs.Prelude.{Vec}
use Rattle.std.specs.declared.alloc.Global.{Global}
use Rattle.record_file.specs.Records.{AreOpen, lists}
use Rattle.record_file.proofs.ParseLemmas.{left_after, reads_more, reads_all}
use Rattle.record_file.proofs.parse.parse.Goals as goal

pub loop-piece-preserved : goal.loop-piece-preserved
loop-piece-preserved c =
    let first = c.in-Some.ensures in let so_far = c.loop-piece.invariant in
    let pushed : c.push.new.self.items ≡ c.loop-piece.records.items ++ c.in_ok-to_vec.field-0 ∷ [] = search rules in
    let copied : c.in_ok-to_vec.field-0.items ≡ c.in-Some.piece.now = search rules in record {
      read = subst (λ (l : List (Vec ℕ Global)). (front : List ℕ) × AreOpen (lists l) front × (c.args.bytes.now ≡ front ++ c.in-Some.after.now)) (sym pushed)
          (reads_more _ _ _ _ so_far.read.0 c.loop-piece.records.items c.in_ok-to_vec.field-0 first.0 so_far.read.1 so_far.read.2 first.1 copied);
      left = left_after _ so_far.left.0 first.0 _ _ so_far.left.1 first.1;
    }

pub returns : goal.returns
returns c = reads_all _ _ _ c.loop-piece.invariant.left.0 c.loop-piece.invariant.read c.loop-piece.invariant.left.1 c.in_default.ensures
