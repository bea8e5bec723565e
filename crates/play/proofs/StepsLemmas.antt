-- Lines that are played one after another.
use Rattle.std.proofs.Common.{◌≡◌, ◌∙◌, ℕ, List, [], ◌∷◌, ◌++◌, refl, sym, ap, subst, append_assoc}
use Rattle.std.specs.Str.Lines.{lines}
use Rattle.std.proofs.lemmas.List.{append-nil}
use Rattle.play.specs.Play.{Played, Plays, PlaysAll}

-- one line more
plays_more : (old now : Played) (done : List (List ℕ)) (told : List ℕ) → PlaysAll old done now told → (line : List ℕ) (next : Played) (more : List ℕ) → Plays now line next more
    → PlaysAll old (done ++ line ∷ []) next (told ++ more)
plays_more old now [] told all line next more plays =
    (next, more, [], subst (λ (p : Played). Plays p line next more) all.0 plays, (refl, refl), ap (λ (xs : List ℕ). xs ++ more) all.1 ∙ sym (append-nil more))
plays_more old now (first ∷ done) told all line next more plays = (
  all.0,
  all.1,
  all.2 ++ more,
  all.3,
  plays_more all.0 now done all.2 all.4 line next more plays,
  ap (λ (xs : List ℕ). xs ++ more) all.5 ∙ append_assoc all.1 all.2 more,
)

-- What was played so far, where `text` is the whole, and `rest` what is left of it; `out` was `before`.
pub record SoFar (old : Played) (text before : List ℕ) (now : Played) (rest out : List ℕ) : Type 0 where
  pub done : List (List ℕ)
  pub told : List ℕ
  pub are : lines text ≡ done ++ lines rest
  pub plays : PlaysAll old done now told
  pub out_is : out ≡ before ++ told

module _ (old : Played) (text before : List ℕ) (now : Played) (rest out : List ℕ) (so_far : SoFar old text before now rest out) where
  module _ (line after : List ℕ) (cut : lines rest ≡ line ∷ lines after) where
    pub more : (next : Played) (new : List ℕ) → ((told : List ℕ) × Plays now line next told × (new ≡ out ++ told)) → SoFar old text before next after new
    more next new step = record {
      done = so_far.done ++ line ∷ [];
      told = so_far.told ++ step.0;
      are = so_far.are ∙ ap (λ (ls : List (List ℕ)). so_far.done ++ ls) cut ∙ sym (append_assoc so_far.done (line ∷ []) (lines after));
      plays = plays_more old now so_far.done so_far.told so_far.plays line next step.0 step.1;
      out_is = step.2 ∙ ap (λ (xs : List ℕ). xs ++ step.0) so_far.out_is ∙ append_assoc before so_far.told step.0;
    }
