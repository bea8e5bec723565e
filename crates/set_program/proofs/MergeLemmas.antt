-- Merges of several lists, and the turns of a board as a merge of the calls of its passes.
use Rattle.std.proofs.Common.{ℕ, zero, ◌≡◌, ◌≢◌, ◌≤◌, ◌==◌, inl, inr, Bool, true, false, if◌then◌else◌, List, [], ◌∷◌, ◌++◌, length, refl, ap, sym, subst, ◌∙◌, arith, append-nil, eq-eqb, eqb-true}
use Rattle.std.specs.Prelude.{map}
use Rattle.std.specs.List.{AllZip}
use mathlib.Core.Logic.{dite}
use mathlib.Core.List.{IsPrefix}
use native.Mathlib.Decide.{ℕ_discrete}
use Rattle.fault_script.specs.Merge.{Interleaves, IsMerge}
use Rattle.turn_board.specs.History.{Stand, calls_by, events, names, times}
use Rattle.turn_board.proofs.Sums.{one_if_same, one_if_other}

module _ {A : Type 0} where
  cons_not_nil : (x : A) (xs : List A) → x ∷ xs ≡ [] → ⊥
  cons_not_nil x xs is = let n = ap (λ (l : List A). length l) is in omega (arith, n)

  -- ---- two lists

  pub only_first : (xs : List A) → Interleaves xs [] xs
  only_first [] = (refl, refl)
  only_first (x ∷ xs) = inl (xs, refl, only_first xs)

  pub only_second : (ys : List A) → Interleaves [] ys ys
  only_second [] = (refl, refl)
  only_second (y ∷ ys) = inr (ys, refl, only_second ys)

  pub is_second : (ys m : List A) → Interleaves [] ys m → m ≡ ys
  is_second ys [] h = sym h.1
  is_second ys (x ∷ m) h = elim h [
    | inl p ↦ absurd (cons_not_nil x p.0 (sym p.1))
    | inr p ↦ ap (λ (l : List A). x ∷ l) (is_second p.0 m p.2) ∙ sym p.1
  ]

  one_then_other : (xs ys : List A) → Interleaves xs ys (xs ++ ys)
  one_then_other [] ys = only_second ys
  one_then_other (x ∷ xs) ys = inl (xs, refl, one_then_other xs ys)

  -- each list goes on
  both_longer : (xs ys m r s : List A) → Interleaves xs ys m → Interleaves (xs ++ r) (ys ++ s) (m ++ (r ++ s))
  both_longer xs ys [] r s h = subst (λ (l : List A). Interleaves (l ++ r) (ys ++ s) (r ++ s)) (sym h.0) (subst (λ (l : List A). Interleaves r (l ++ s) (r ++ s)) (sym h.1) (one_then_other r s))
  both_longer xs ys (x ∷ m) r s h = elim h [
    | inl p ↦ inl (p.0 ++ r, ap (λ (l : List A). l ++ r) p.1, both_longer p.0 ys m r s p.2)
    | inr p ↦ inr (p.0 ++ s, ap (λ (l : List A). l ++ s) p.1, both_longer xs p.0 m r s p.2)
  ]

  pub push_first : (xs ys m : List A) (x : A) → Interleaves xs ys m → Interleaves (xs ++ x ∷ []) ys (m ++ x ∷ [])
  push_first xs ys m x h = subst (λ (l : List A). Interleaves (xs ++ x ∷ []) l (m ++ x ∷ [])) (append-nil ys) (both_longer xs ys m (x ∷ []) [] h)

  pub push_second : (xs ys m : List A) (y : A) → Interleaves xs ys m → Interleaves xs (ys ++ y ∷ []) (m ++ y ∷ [])
  push_second xs ys m y h = subst (λ (l : List A). Interleaves l (ys ++ y ∷ []) (m ++ y ∷ [])) (append-nil xs) (both_longer xs ys m [] (y ∷ []) h)

  -- a merge of three lists, with the last two first
  regroup : (n xs ys zs m : List A) → Interleaves xs ys m → Interleaves m zs n → (others : List A) × Interleaves ys zs others × Interleaves xs others n
  regroup [] xs ys zs m h k =
      let none = subst (λ (l : List A). Interleaves xs ys l) k.0 h in
      ([], (none.1, k.1), (none.0, refl))
  regroup (i ∷ n) xs ys zs m h k = elim k [
    | inl p ↦ elim (subst (λ (l : List A). Interleaves xs ys l) p.1 h) [
      | inl q ↦ let r = regroup n q.0 ys zs p.0 q.2 p.2 in (r.0, r.1, inl (q.0, q.1, r.2))
      | inr q ↦ let r = regroup n xs q.0 zs p.0 q.2 p.2 in (i ∷ r.0, inl (q.0, q.1, r.1), inr (r.0, refl, r.2))
    ]
    | inr p ↦ let r = regroup n xs ys p.0 m h p.2 in (i ∷ r.0, inr (p.0, p.1, r.1), inr (r.0, refl, r.2))
  ]

  -- ---- several lists

  -- with one list more at the end
  pub merge_more : (lists : List (List A)) (last earlier m : List A) → IsMerge lists earlier → Interleaves earlier last m → IsMerge (lists ++ last ∷ []) m
  merge_more [] last earlier m h k =
      let is = is_second last m (subst (λ (l : List A). Interleaves l last m) h k) in
      ([], refl, subst (λ (l : List A). Interleaves last [] l) (sym is) (only_first last))
  merge_more (list ∷ lists) last earlier m h k =
      let r = regroup m list h.0 last earlier h.2 k in
      (r.0, merge_more lists last h.0 r.0 h.1 r.1, r.2)

  -- a merge of prefixes goes on as a merge of the whole lists
  pub merge_goes_on : (lists fronts : List (List A)) (m : List A) → AllZip (λ (list front : List A). IsPrefix front list) lists fronts → IsMerge fronts m
      → (rest : List A) × IsMerge lists (m ++ rest)
  merge_goes_on [] [] m each h = ([], subst (λ (l : List A). l ++ [] ≡ []) (sym h) refl)
  merge_goes_on [] (front ∷ fronts) m each h = absurd each
  merge_goes_on (list ∷ lists) [] m each h = absurd each
  merge_goes_on (list ∷ lists) (front ∷ fronts) m each h =
      let later = merge_goes_on lists fronts h.0 each.1 h.1 in
      let both = both_longer front h.0 m each.0.0 later.0 h.2 in
      (each.0.0 ++ later.0, (h.0 ++ later.0, later.1, subst (λ (l : List A). Interleaves l (h.0 ++ later.0) (m ++ (each.0.0 ++ later.0))) each.0.1 both))

  -- an empty list in front
  pub without_empty : (lists : List (List A)) (m : List A) → IsMerge ([] ∷ lists) m → IsMerge lists m
  without_empty lists m h = subst (λ (l : List A). IsMerge lists l) (sym (is_second h.0 m h.2)) h.1

module _ {A B : Type 0} (f : A → B) where
  two_mapped : (xs ys m : List A) → Interleaves xs ys m → Interleaves (map f xs) (map f ys) (map f m)
  two_mapped xs ys [] h = (ap (λ (l : List A). map f l) h.0, ap (λ (l : List A). map f l) h.1)
  two_mapped xs ys (x ∷ m) h = elim h [
    | inl p ↦ inl (map f p.0, ap (λ (l : List A). map f l) p.1, two_mapped p.0 ys m p.2)
    | inr p ↦ inr (map f p.0, ap (λ (l : List A). map f l) p.1, two_mapped xs p.0 m p.2)
  ]

  pub merge_mapped : (lists : List (List A)) (m : List A) → IsMerge lists m → IsMerge (map (λ (l : List A). map f l) lists) (map f m)
  merge_mapped [] m h = ap (λ (l : List A). map f l) h
  merge_mapped (list ∷ lists) m h = (map f h.0, merge_mapped lists h.0 h.1, two_mapped list h.0 m h.2)

-- ---- the turns of a board

module _ {E : Type 0} where
  -- the turns of all passes but one
  abbrev others : ℕ → List (ℕ × E) → List (ℕ × E)
  others p [] = []
  others p (t ∷ ts) = if p == t.0 then others p ts else t ∷ others p ts

  own_and_others : (p : ℕ) (ts : List (ℕ × E)) → Interleaves (calls_by p ts) (events (others p ts)) (events ts)
  own_and_others p [] = (refl, refl)
  own_and_others p (t ∷ ts) = go (p == t.0) (own_and_others p ts)
    where
      go : (b : Bool) → Interleaves (calls_by p ts) (events (others p ts)) (events ts)
          → Interleaves (if b then t.1 ∷ calls_by p ts else calls_by p ts) (events (if b then others p ts else t ∷ others p ts)) (t.1 ∷ events ts)
      go true later = inl (calls_by p ts, refl, later)
      go false later = inr (events (others p ts), refl, later)

  none_left : (p : ℕ) (ts : List (ℕ × E)) → calls_by p (others p ts) ≡ []
  none_left p [] = refl
  none_left p (t ∷ ts) = go (p == t.0) refl (none_left p ts)
    where
      go : (b : Bool) → p == t.0 ≡ b → calls_by p (others p ts) ≡ [] → calls_by p (if b then others p ts else t ∷ others p ts) ≡ []
      go true is later = later
      go false is later = rw is later

  left_alone : (p q : ℕ) (ts : List (ℕ × E)) → q ≢ p → calls_by q (others p ts) ≡ calls_by q ts
  left_alone p q [] ne = refl
  left_alone p q (t ∷ ts) ne = go (p == t.0) refl (q == t.0) refl (left_alone p q ts ne)
    where
      go : (b : Bool) → p == t.0 ≡ b → (c : Bool) → q == t.0 ≡ c → calls_by q (others p ts) ≡ calls_by q ts
          → calls_by q (if b then others p ts else t ∷ others p ts) ≡ (if c then t.1 ∷ calls_by q ts else calls_by q ts)
      go true is true at later = absurd (ne (eqb-true q t.0 at ∙ sym (eqb-true p t.0 is)))
      go true is false at later = later
      go false is true at later = rw at (ap (λ (l : List E). t.1 ∷ l) later)
      go false is false at later = rw at later

  stand_alone : (p : ℕ) (ts : List (ℕ × E)) (cs : List (ℕ × List E)) → times p (names cs) ≡ 0 → Stand ts cs → Stand (others p ts) cs
  stand_alone p ts [] none h = tt
  stand_alone p ts (c ∷ cs) none h =
      let ne : c.0 ≢ p = λ same. let one = one_if_same p c.0 (sym same) in omega (arith, one, none) in
      (left_alone p c.0 ts ne ∙ h.0, stand_alone p ts cs (omega (arith, none)) h.1)

  no_turns : (ts : List (ℕ × E)) → ((p : ℕ) → calls_by p ts ≡ []) → ts ≡ []
  no_turns [] none = refl
  no_turns (t ∷ ts) none = absurd (cons_not_nil t.1 (calls_by t.0 ts) (own t ts ∙ none t.0))
    where
      own : (t : ℕ × E) (ts : List (ℕ × E)) → t.1 ∷ calls_by t.0 ts ≡ calls_by t.0 (t ∷ ts)
      own t ts = ap (λ (b : Bool). if b then t.1 ∷ calls_by t.0 ts else calls_by t.0 ts) (sym (eq-eqb t.0 t.0 refl))

  -- each pass once and no others: the events are a merge of their calls
  pub turns_merge : (cs : List (ℕ × List E)) (ts : List (ℕ × E)) → Stand ts cs → ((p : ℕ) → times p (names cs) ≤ 1)
      → ((p : ℕ) → times p (names cs) ≡ 0 → calls_by p ts ≡ []) → IsMerge (map (λ (c : ℕ × List E). c.1) cs) (events ts)
  turns_merge [] ts stand once none = ap (λ (l : List (ℕ × E)). events l) (no_turns ts (λ p. none p refl))
  turns_merge (c ∷ cs) ts stand once none =
      let not_twice : times c.0 (names cs) ≡ 0 = let one = one_if_same c.0 c.0 refl in let most = once c.0 in omega (arith, one, most) in
      let later = turns_merge cs (others c.0 ts) (stand_alone c.0 ts cs not_twice stand.1) (λ p. let most = once p in omega (arith, most)) (rest c cs ts none) in
      (events (others c.0 ts), later, subst (λ (l : List E). Interleaves l (events (others c.0 ts)) (events ts)) stand.0 (own_and_others c.0 ts))
    where
      rest : (c : ℕ × List E) (cs : List (ℕ × List E)) (ts : List (ℕ × E)) → ((p : ℕ) → times p (names (c ∷ cs)) ≡ 0 → calls_by p ts ≡ [])
          → (p : ℕ) → times p (names cs) ≡ 0 → calls_by p (others c.0 ts) ≡ []
      rest c cs ts none p absent = dite (ℕ_discrete p c.0)
          (λ same. subst (λ (q : ℕ). calls_by q (others c.0 ts) ≡ []) (sym same) (none_left c.0 ts))
          (λ ne. left_alone c.0 p ts ne ∙ none p (let zero = one_if_other p c.0 ne in omega (arith, zero, absent)))
