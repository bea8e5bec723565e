-- What is in a list, in a part of it, and in a set of optimes.
use Rattle.std.proofs.Common.{◌≡◌, ◌∙◌, ◌⊎◌, ◌≤◌, inl, inr, ap, sym, subst, refl, arith, Bool, true, false, ◌||◌, cond, filter, take, length, List, [], ◌∷◌, ℕ, zero, suc}
use Rattle.std.proofs.lemmas.Bool.{or_cases}
use Rattle.std.proofs.lemmas.List.Elements.{All-tail}
use Rattle.std.specs.Cmp.{Equal-is, tied_itself}
use Rattle.std.specs.FinSet as sets
use Rattle.std.specs.List.{All, list_any}
use Rattle.std.specs.Ordering.{eq_by_cmp, is_eq}
use Rattle.rs_optime.specs.Membership.{In}
use Rattle.rs_optime.specs.Order.{optime_cmp}
use Rattle.rs_optime.specs.declared.optime.OpTime.{OpTime}
use Rattle.rs_optime.proofs.OrderLemmas.{optime_total, optime_exact}

pub in_filter : {A : Type 0} (test : A → Bool) (xs : List A) (x : A) → In x (filter test xs) → In x xs × (test x ≡ true)
in_filter test [] x there = absurd there
in_filter test (y ∷ xs) x there = go (test y) refl (in_filter test xs x) there
  where
    go : (b : Bool) → test y ≡ b → (In x (filter test xs) → In x xs × (test x ≡ true)) → In x (cond b (y ∷ filter test xs) (filter test xs)) → In x (y ∷ xs) × (test x ≡ true)
    go true is rest (inl same) = (inl same, ap test (sym same) ∙ is)
    go true is rest (inr more) = (inr (rest more).0, (rest more).1)
    go false is rest more = (inr (rest more).0, (rest more).1)

pub in_take : {A : Type 0} (many : ℕ) (x : A) (xs : List A) → In x (take many xs) → In x xs
in_take zero x xs there = absurd there
in_take (suc many) x [] there = absurd there
in_take (suc many) x (y ∷ xs) (inl same) = inl same
in_take (suc many) x (y ∷ xs) (inr there) = inr (in_take many x xs there)

pub all_in : {X : Type 0} (P : X → Type 0) (xs : List X) (x : X) → All P xs → In x xs → P x
all_in P [] x all there = absurd there
all_in P (y ∷ ys) x all (inl same) = subst P same (all zero y (omega arith))
all_in P (y ∷ ys) x all (inr there) = all_in P ys x (All-tail P y ys all) there

pub in_all : {X : Type 0} (P : X → Type 0) (xs : List X) → ((x : X) → In x xs → P x) → All P xs
in_all P [] each zero d less = absurd (omega arith)
in_all P [] each (suc i) d less = absurd (omega arith)
in_all P (y ∷ ys) each zero d less = each y (inl refl)
in_all P (y ∷ ys) each (suc i) d less = in_all P ys (λ x there. each x (inr there)) i d (omega arith)

pub filter-same : {X : Type 0} (p q : X → Bool) (xs : List X) → ((x : X) → In x xs → p x ≡ q x) → filter p xs ≡ filter q xs
filter-same p q [] each = refl
filter-same p q (x ∷ xs) each =
    ap (λ b. cond b (x ∷ filter p xs) (filter p xs)) (each x (inl refl)) ∙ ap (λ rest. cond (q x) (x ∷ rest) rest) (filter-same p q xs (λ y there. each y (inr there)))

pub length-passed : {X : Type 0} (p : X → Bool) (xs : List X) → length (filter p xs) ≤ length xs
length-passed p [] = omega arith
length-passed p (x ∷ xs) = go (length-passed p xs) (p x)
  where
    go : length (filter p xs) ≤ length xs → (b : Bool) → length (cond b (x ∷ filter p xs) (filter p xs)) ≤ length (x ∷ xs)
    go rest true = omega (arith, rest)
    go rest false = omega (arith, rest)

-- ---- sets of optimes

any_in : (at : OpTime) (slots : List OpTime) → list_any (eq_by_cmp optime_cmp at) slots ≡ true → In at slots
any_in at [] is = absurd (cc is)
any_in at (slot ∷ slots) is = go (eq_by_cmp optime_cmp at slot) refl (λ more. any_in at slots more) is
  where
    go : (b : Bool) → eq_by_cmp optime_cmp at slot ≡ b → (list_any (eq_by_cmp optime_cmp at) slots ≡ true → In at slots) → (b || list_any (eq_by_cmp optime_cmp at) slots) ≡ true → In at (slot ∷ slots)
    go true tied rest is = inl (sym (optime_exact at slot ((Equal-is _).0 tied)))
    go false tied rest is = inr (rest is)

in_any : (at : OpTime) (slots : List OpTime) → In at slots → list_any (eq_by_cmp optime_cmp at) slots ≡ true
in_any at [] there = absurd there
in_any at (slot ∷ slots) (inl same) =
    let tied : eq_by_cmp optime_cmp at slot ≡ true = subst (λ s. eq_by_cmp optime_cmp s slot ≡ true) same (ap is_eq (tied_itself optime_total slot)) in
    ap (λ b. b || list_any (eq_by_cmp optime_cmp at) slots) tied
in_any at (slot ∷ slots) (inr there) = go (eq_by_cmp optime_cmp at slot) (in_any at slots there)
  where
    go : (b : Bool) → list_any (eq_by_cmp optime_cmp at) slots ≡ true → (b || list_any (eq_by_cmp optime_cmp at) slots) ≡ true
    go true rest = refl
    go false rest = rest

pub contains_in : (slots : sets.FinSet optime_cmp) (at : OpTime) → sets.contains slots at ≡ true → In at (sets.items slots)
contains_in slots at has = any_in at (sets.items slots) (sym (sets.contains-items slots at) ∙ has)

pub in_contains : (slots : sets.FinSet optime_cmp) (at : OpTime) → In at (sets.items slots) → sets.contains slots at ≡ true
in_contains slots at there = sets.contains-items slots at ∙ in_any at (sets.items slots) there

pub in_more : (slots : sets.FinSet optime_cmp) (at o : OpTime) → In o (sets.items (sets.insert slots at)) → (o ≡ at) ⊎ In o (sets.items slots)
in_more slots at o there =
    elim (or_cases (eq_by_cmp optime_cmp o at) (sets.contains slots o) (sym (sets.contains-insert optime_total slots at o) ∙ in_contains (sets.insert slots at) o there)) [
      | inl tied ↦ inl (optime_exact o at ((Equal-is _).0 tied))
      | inr before ↦ inr (contains_in slots o before)
    ]
