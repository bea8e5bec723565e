-- A reply is passed over byte by byte.
use Rattle.std.proofs.Common.{◌≡◌, ℕ, ◌+◌, ◌-◌, ◌<◌, ◌≤◌, Bool, true, false, cond, ◌==◌, List, length, take, drop, get_or, Ok, Err, refl, sym, ap, subst, arith, ◌∙◌}
use Rattle.std.specs.Prelude.{◌&&◌, nat_lt}
use Rattle.std.proofs.lemmas.Bool.{and_parts}
use Rattle.std.proofs.lemmas.List.{drop_all, drop_more, take_rest}
use Rattle.run_checker.specs.declared.checking.CheckError.TheVariants.{OtherReply}
use Rattle.run_checker.specs.Checking.{after_text, number_after, stands_at}

-- what is left of the reply and of the bytes comes to what the whole does
pub record PassedSoFar (line : ℕ) (reply rest : List ℕ) (next place : ℕ) : Type 0 where
  pub comes : after_text next (drop place reply) (drop place rest) ≡ after_text line reply rest
  pub within : place ≤ length rest
  pub numbers : next ≤ line + place

module _ (number place : ℕ) (reply rest : List ℕ) (within : place < length reply) where
  -- nothing stands there
  ends_here : length rest ≤ place → after_text number (drop place reply) (drop place rest) ≡ Err (OtherReply number)
  ends_here short = rw (drop_more reply place 0 within, drop_all place rest short) refl

  module _ (there : place < length rest) where
    -- another byte does
    differs_here : (get_or reply place 0 == get_or rest place 0) ≡ false → after_text number (drop place reply) (drop place rest) ≡ Err (OtherReply number)
    differs_here other = rw (drop_more reply place 0 within, drop_more rest place 0 there, other) refl

    -- the same does
    passes_here : (get_or reply place 0 == get_or rest place 0) ≡ true
        → after_text number (drop place reply) (drop place rest) ≡ after_text (number_after (get_or reply place 0) number) (drop (place + 1) reply) (drop (place + 1) rest)
    passes_here same = rw (drop_more reply place 0 within, drop_more rest place 0 there, same) refl

-- where a byte stands there is one
pub is_there : (byte place : ℕ) (rest : List ℕ) → stands_at byte place rest ≡ true → place < length rest
is_there byte place rest is = let inside = (and_parts (nat_lt place (length rest)) (byte == get_or rest place 0) is).0 in grind arith

-- at most one more
pub one_line : (byte number : ℕ) → number_after byte number ≤ number + 1
one_line byte number = by_test (byte == 10)
  where
    by_test : (b : Bool) → cond b (number + 1) number ≤ number + 1
    by_test true = omega arith
    by_test false = omega arith

module _ (line : ℕ) (reply rest : List ℕ) (next place : ℕ) (so_far : PassedSoFar line reply rest next place) where
  module _ (within : place < length reply) where
    -- another byte stands there, or none
    pub stops_there : stands_at (get_or reply place 0) place rest ≡ false → after_text line reply rest ≡ Err (OtherReply next)
    stops_there other = sym so_far.comes ∙ by_test (nat_lt place (length rest)) refl other
      where
        by_test : (b : Bool) → nat_lt place (length rest) ≡ b → (b && (get_or reply place 0 == get_or rest place 0)) ≡ false → after_text next (drop place reply) (drop place rest) ≡ Err (OtherReply next)
        by_test true is apart = differs_here next place reply rest within (grind arith) apart
        by_test false is apart = ends_here next place reply rest within (grind arith)

    -- the same does
    pub passes_there : (after more : ℕ) → stands_at (get_or reply place 0) place rest ≡ true → after ≡ number_after (get_or reply place 0) next → more ≡ place + 1
        → PassedSoFar line reply rest after more
    passes_there after more is after_is more_is =
        let there = is_there (get_or reply place 0) place rest is in
        let same = (and_parts (nat_lt place (length rest)) (get_or reply place 0 == get_or rest place 0) is).1 in
        let number = one_line (get_or reply place 0) next in
        let here : PassedSoFar line reply rest (number_after (get_or reply place 0) next) (place + 1) =
        record { comes = sym (passes_here next place reply rest within there same) ∙ so_far.comes; within = omega (arith, there); numbers = omega (arith, number, so_far.numbers) } in
        subst (λ (n : ℕ). PassedSoFar line reply rest after n) (sym more_is) (subst (λ (n : ℕ). PassedSoFar line reply rest n (place + 1)) (sym after_is) here)

  -- after the last byte of the reply
  pub passed_all : length reply ≤ place → place ≤ length reply → after_text line reply rest ≡ Ok (take (length rest - length reply) (drop (length reply) rest), next)
  passed_all far near =
      let end : place ≡ length reply = omega (arith, far, near) in
      let left : after_text next (drop place reply) (drop place rest) ≡ Ok (drop place rest, next) = ap (λ (xs : List ℕ). after_text next xs (drop place rest)) (drop_all place reply far) in
      let rest_is : drop place rest ≡ take (length rest - length reply) (drop (length reply) rest) = ap (λ (n : ℕ). drop n rest) end ∙ sym (take_rest rest (length reply)) in
      sym so_far.comes ∙ left ∙ ap (λ (xs : List ℕ). Ok (xs, next)) rest_is
