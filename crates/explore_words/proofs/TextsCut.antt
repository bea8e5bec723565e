-- Where a text is cut at its last mark.
use Rattle.std.proofs.Common.{◌≡◌, ◌<◌, ◌≤◌, ◌==◌, ◌+◌, ℕ, zero, suc, Bool, true, false, List, [], ◌∷◌, ◌++◌, length, take, drop, Option, None, Some, refl, sym, arith}
use denote.Ref.{Bor}
use Rattle.std.specs.List.{starts_with}
use Rattle.std.specs.Prelude.{MatchOption}
use Rattle.std.specs.Str.Pattern.{LacksTextAt, RFindsText, SplitsAroundMatch}
use Rattle.std.proofs.lemmas.Bool.Decides.{Decides-eqb}
use Rattle.std.proofs.lemmas.Slice.Eq.{starts_is}
use Rattle.explore_words.specs.Texts.{cut_at_last}

starts_not : (mark text : List ℕ) → LacksTextAt mark text 0 → starts_with ◌==◌ text mark ≡ false
starts_not mark text lacks = by (starts_with ◌==◌ text mark) refl
  where
    by : (b : Bool) → b ≡ starts_with ◌==◌ text mark → starts_with ◌==◌ text mark ≡ false
    by true is = absurd (lacks (drop (length mark) text) ((starts_is Decides-eqb text mark true is).0 refl))
    by false is = sym is

-- no mark is found where none is
pub none_cut : (mark text : List ℕ) → ((i : ℕ) → i ≤ length text → LacksTextAt mark text i) → cut_at_last mark text ≡ None
none_cut mark [] lacks = refl
none_cut mark (c ∷ text) lacks =
    rw (none_cut mark text (λ i within. lacks (suc i) (omega (arith, within))), starts_not mark (c ∷ text) (lacks 0 (omega arith))) refl

nothing_is : (c : ℕ) (text : List ℕ) → [] ≡ c ∷ text → ⊥
nothing_is c text same = absurd cc

-- the last mark is found
pub some_cut : (mark text : List ℕ) (i j : ℕ) → 0 < length mark → j ≡ i + length mark → ((k : ℕ) → i < k → k ≤ length text → LacksTextAt mark text k)
    → drop i text ≡ mark ++ drop j text → cut_at_last mark text ≡ Some (take i text, drop j text)
some_cut [] text i j some ends later has = absurd (omega (arith, some))
some_cut (m ∷ mark) [] zero j some ends later has = absurd (nothing_is m (mark ++ drop j []) has)
some_cut (m ∷ mark) [] (suc i) j some ends later has = absurd (nothing_is m (mark ++ drop j []) has)
some_cut (m ∷ mark) (c ∷ text) zero j some ends later has =
    let none = none_cut (m ∷ mark) text (λ k within. later (suc k) (omega arith) (omega (arith, within))) in
    let starts = (starts_is Decides-eqb (c ∷ text) (m ∷ mark) (starts_with ◌==◌ (c ∷ text) (m ∷ mark)) refl).1 (drop j (c ∷ text)) has in
    let whole : j ≡ length (m ∷ mark) = omega (arith, ends) in
    rw (none, starts, whole) refl
some_cut (m ∷ mark) (c ∷ text) (suc i) j some ends later has =
    let next : j ≡ suc (i + length (m ∷ mark)) = omega (arith, ends) in
    rw (next, some_cut (m ∷ mark) text i (i + length (m ∷ mark)) some refl (λ k above within. later (suc k) (omega (arith, above)) (omega (arith, within))) (rw next at has)) refl

-- what `rsplit_once` tells
pub cut_result : (mark text : List ℕ) (cut : Option (Bor (List ℕ) × Bor (List ℕ))) → 0 < length mark
    → MatchOption cut (RFindsText mark text None) (λ parts. SplitsAroundMatch (RFindsText mark) text parts.0.now parts.1.now)
    → MatchOption cut (cut_at_last mark text ≡ None) (λ parts. cut_at_last mark text ≡ Some (parts.0.now, parts.1.now))
cut_result mark text None some none = none_cut mark text none
cut_result mark text (Some parts) some found =
    rw (found.3, found.4) (some_cut mark text found.0 found.1 some found.2.1.ends found.2.0 found.2.1.split)
