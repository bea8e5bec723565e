-- Which wants are met, one more at a time, and the reply within its line.
use Rattle.std.proofs.Common.{◌≡◌, ◌∙◌, ◌++◌, ◌<◌, ◌⊎◌, inl, inr, ℕ, ◌+◌, ◌-◌, ◌==◌, Bool, true, false, List, [], ◌∷◌, Some, refl, sym, subst, ap, arith, length, take, drop, length-append}
use Rattle.std.specs.Prelude.{slice_get}
use Rattle.std.proofs.Math.Seq.{take-append_seam}
use Rattle.std.specs.Fmt.{digits}
use Rattle.std.proofs.lemmas.Bool.Decides.{Decides-eqb}
use Rattle.commit_machine.proofs.Growth.{in_append, in_left, in_right}
use Rattle.explore_words.specs.declared.question.Want.{Want}
use Rattle.set_model.specs.declared.reply.Reply.{Reply}
use Rattle.transcript.specs.Replies.{line_text, reply_text}
use Rattle.explore_steps.specs.Causes.{Cause, IsMetBy}
use Rattle.explore_steps.specs.Met.{AreMet}

-- a place among one more
below_or_last : (place count : ℕ) → place < count + 1 → (place < count) ⊎ (place ≡ count)
below_or_last place count below = by_test (place == count) refl
  where
    by_test : (b : Bool) → (place == count) ≡ b → (place < count) ⊎ (place ≡ count)
    by_test true is = inr ((Decides-eqb place count).0 is)
    by_test false is = inl (grind (arith, is, below))

some_same : {A : Type 0} (x y : A) → Some x ≡ Some y → x ≡ y
some_same x y same = cc

pub met_more : (cause : Cause) (reply : Reply) (wants : List Want) (count : ℕ) (places more : List ℕ) (want : Want) → AreMet cause reply wants count places
    → slice_get wants count ≡ Some want → IsMetBy cause want reply → more ≡ places ++ count ∷ [] → AreMet cause reply wants (count + 1) more
met_more cause reply wants count places more want so there meets grown = subst (AreMet cause reply wants (count + 1)) (sym grown) (record {
  met = λ place other below is. (
    λ among. elim (in_append place places (count ∷ []) among) [
      | inl one ↦ (so.met place other (so.within place one) is).0 one
      | inr two ↦ elim two [ inl last ↦ last_is place other is (sym last) | inr none ↦ absurd none ]
    ],
    λ met. elim (below_or_last place count below) [
      | inl one ↦ in_left place places (count ∷ []) ((so.met place other one is).1 met)
      | inr last ↦ in_right place places (count ∷ []) (inl (sym last))
    ],
  );
  within = λ place among. elim (in_append place places (count ∷ []) among) [
    | inl one ↦ (let below = so.within place one in omega (arith, below))
    | inr two ↦ elim two [ inl last ↦ omega (arith, last) | inr none ↦ absurd none ]
  ];
})
  where
    last_is : (place : ℕ) (other : Want) → slice_get wants place ≡ Some other → place ≡ count → IsMetBy cause other reply
    last_is place other is last =
        subst (λ (w : Want). IsMetBy cause w reply) (some_same want other (sym there ∙ ap (slice_get wants) (sym last) ∙ is)) meets

pub met_less : (cause : Cause) (reply : Reply) (wants : List Want) (count : ℕ) (places more : List ℕ) (want : Want) → AreMet cause reply wants count places
    → slice_get wants count ≡ Some want → (IsMetBy cause want reply → ⊥) → more ≡ places → AreMet cause reply wants (count + 1) more
met_less cause reply wants count places more want so there misses kept = subst (AreMet cause reply wants (count + 1)) (sym kept) (record {
  met = λ place other below is. (
    λ among. (so.met place other (so.within place among) is).0 among,
    λ met. elim (below_or_last place count below) [
      | inl one ↦ (so.met place other one is).1 met
      | inr last ↦ absurd (misses (last_is place other is last met))
    ],
  );
  within = λ place among. (let below = so.within place among in omega (arith, below));
})
  where
    last_is : (place : ℕ) (other : Want) → slice_get wants place ≡ Some other → place ≡ count → IsMetBy cause other reply → IsMetBy cause want reply
    last_is place other is last met =
        subst (λ (w : Want). IsMetBy cause w reply) (sym (some_same want other (sym there ∙ ap (slice_get wants) (sym last) ∙ is))) met

-- ---- the reply within its line

between : (text : List ℕ) → take (length (48 ∷ 58 ∷ 32 ∷ (text ++ 10 ∷ [])) - 1 - 3) (text ++ 10 ∷ []) ≡ text
between text =
    let count : length (48 ∷ 58 ∷ 32 ∷ (text ++ 10 ∷ [])) - 1 - 3 ≡ length text = omega (arith, length-append text (10 ∷ [])) in
    ap (λ n. take n (text ++ 10 ∷ [])) count ∙ take-append_seam text (10 ∷ [])

pub reply_within : (reply : Reply) (line : List ℕ) → line ≡ line_text (0, reply) → take (length line - 1 - 3) (drop 3 line) ≡ reply_text reply
unfolding digits
reply_within reply line is = ap (λ (l : List ℕ). take (length l - 1 - 3) (drop 3 l)) is ∙ between (reply_text reply)
