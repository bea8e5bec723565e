-- Pieces that are put one after another, and how far the putting of one piece has come.
use Rattle.std.proofs.Common.{ℕ, ◌≡◌, ◌+◌, List, ◌++◌, take, drop, append_assoc, ap, ◌∙◌}
use Rattle.std.specs.Prelude.{Option, None, Some}
use Rattle.std.proofs.Math.Seq.{take-add}
use Rattle.std.proofs.lemmas.List.{drop-drop}
use Rattle.std.specs.Io.KnownBytes.{Appends, Keeps}

pub Appends-append : (old mid new : Option (List ℕ)) (xs ys : List ℕ) → Appends old mid xs → Appends mid new ys → Appends old new (xs ++ ys)
Appends-append None mid new xs ys first second = tt
Appends-append (Some a) None new xs ys first second = absurd first
Appends-append (Some a) (Some b) None xs ys first second = absurd second
Appends-append (Some a) (Some b) (Some c) xs ys first second = second ∙ ap (λ (zs : List ℕ). zs ++ ys) first ∙ append_assoc a xs ys

pub Appends-keeps : (old mid new : Option (List ℕ)) (xs : List ℕ) → Appends old mid xs → Keeps mid new → Appends old new xs
Appends-keeps None mid new xs first kept = tt
Appends-keeps (Some a) None new xs first kept = absurd first
Appends-keeps (Some a) (Some b) None xs first kept = absurd kept
Appends-keeps (Some a) (Some b) (Some c) xs first kept = kept ∙ first

-- a prefix of the piece was appended, and this is what is left of it
pub record PutSoFar (old new : Option (List ℕ)) (piece rest : List ℕ) : Type 0 where
  pub count : ℕ
  pub left : rest ≡ drop count piece
  pub put : Appends old new (take count piece)

-- a prefix of what was left is appended too
pub put_more : (old mid new : Option (List ℕ)) (piece rest after : List ℕ) (n : ℕ) → PutSoFar old mid piece rest → Appends mid new (take n rest) → after ≡ drop n rest → PutSoFar old new piece after
put_more old mid new piece rest after n so_far more is = record {
  count = so_far.count + n;
  left = is ∙ ap (λ (xs : List ℕ). drop n xs) so_far.left ∙ drop-drop n so_far.count piece;
  put = rw (take-add so_far.count n piece, ← so_far.left) (Appends-append old mid new (take so_far.count piece) (take n rest) so_far.put more);
}

-- nothing is appended
pub put_still : (old mid new : Option (List ℕ)) (piece rest : List ℕ) → PutSoFar old mid piece rest → Keeps mid new → PutSoFar old new piece rest
put_still old mid new piece rest so_far kept = record {
  count = so_far.count;
  left = so_far.left;
  put = Appends-keeps old mid new (take so_far.count piece) so_far.put kept;
}
