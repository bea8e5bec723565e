-- The members and the nodes that a set begins with, one after another.
use Rattle.std.proofs.Common.{◌≡◌, ◌∙◌, ◌+◌, ap, sym, arith, ℕ, zero, suc, List, [], ◌∷◌, ◌++◌}

-- Lists of what stands at each number: of so many, from the first number on.
module _ {A : Type 0} (one : ℕ → A) (numbered : ℕ → ℕ → List A) (none : (first : ℕ) → numbered first zero ≡ [])
    (some : (first count : ℕ) → numbered first (suc count) ≡ one first ∷ numbered (first + 1) count) where
  last_number : (first count : ℕ) → numbered first (suc count) ≡ numbered first count ++ one (first + count) ∷ []
  last_number first zero =
      some first zero ∙ ap (λ l. one first ∷ l) (none (first + 1))
      ∙ ap (λ n. one n ∷ []) (let same : first ≡ first + 0 = omega arith in same) ∙ ap (λ l. l ++ one (first + 0) ∷ []) (sym (none first))
  last_number first (suc count) =
      some first (suc count) ∙ ap (λ l. one first ∷ l) (last_number (first + 1) count)
      ∙ ap (λ n. one first ∷ (numbered (first + 1) count ++ one n ∷ [])) (let same : first + 1 + count ≡ first + suc count = omega arith in same)
      ∙ ap (λ l. l ++ one (first + suc count) ∷ []) (sym (some first count))

  -- one more
  pub number_more : (count : ℕ) (old new : List A) → old ≡ numbered 0 count → new ≡ old ++ one count ∷ [] → new ≡ numbered 0 (count + 1)
  number_more count old new is more =
      more ∙ ap (λ l. l ++ one count ∷ []) is ∙ ap (λ n. numbered 0 count ++ one n ∷ []) (let same : count ≡ 0 + count = omega arith in same)
      ∙ sym (last_number 0 count) ∙ ap (numbered 0) (let same : suc count ≡ count + 1 = omega arith in same)
