-- Lists by the numbers of what is in them.
use Rattle.std.proofs.Common.{◌≡◌, ◌∙◌, ◌<◌, ◌⊎◌, ◌||◌, inl, inr, arith, ap, sym, subst, refl, cond, add-one, take, eq-eqb, ne_eqb, get_or, Contains, ℕ, zero, suc, ◌+◌, ◌==◌, Bool, true, false, not, Some, List, [], ◌∷◌, ◌++◌, map, filter, length, slice_get, if◌then◌else◌}
use Rattle.std.proofs.lemmas.Bool.{cases_eq}
use Rattle.std.proofs.lemmas.List.Sums.{sum_by-append}
use Rattle.std.proofs.lemmas.Option.{same_Some, slice_get_within}
use Rattle.std.specs.List.{list_any}
use Rattle.commit_machine.proofs.Growth.{in_append, in_left, in_right}
use Rattle.rs_optime.specs.Membership.{In}
use Rattle.explore_tables.specs.Numbers.{times}

-- the numbers of these, one by one, in a list
abbrev pub Numbers : {A : Type 0} → List A → List ℕ → List A → Type 0
Numbers kept numbers values = map (slice_get kept) numbers ≡ map Some values

module _ {A : Type 0} (kept : List A) where
  pub numbers_tail : (number : ℕ) (numbers : List ℕ) (value : A) (values : List A) → Numbers kept (number ∷ numbers) (value ∷ values)
      → (slice_get kept number ≡ Some value) × Numbers kept numbers values
  numbers_tail number numbers value values are = (cc are, cc are)

  pub numbers_more : (number : ℕ) (numbers : List ℕ) (value : A) (values : List A) → slice_get kept number ≡ Some value → Numbers kept numbers values
      → Numbers kept (number ∷ numbers) (value ∷ values)
  numbers_more number numbers value values is are = cc (is, are)

  pub numbers_count : (numbers : List ℕ) (values : List A) → Numbers kept numbers values → length numbers ≡ length values
  numbers_count [] [] are = refl
  numbers_count [] (value ∷ values) are = absurd (cc are)
  numbers_count (number ∷ numbers) [] are = absurd (cc are)
  numbers_count (number ∷ numbers) (value ∷ values) are = ap suc (numbers_count numbers values (numbers_tail number numbers value values are).1)

  -- what a number stands for is among them
  pub number_in : (numbers : List ℕ) (values : List A) → Numbers kept numbers values → (number : ℕ) → In number numbers
      → (value : A) × (slice_get kept number ≡ Some value) × In value values
  number_in [] values are number there = absurd there
  number_in (first ∷ numbers) [] are number there = absurd (cc are)
  number_in (first ∷ numbers) (value ∷ values) are number (inl same) =
      (value, ap (slice_get kept) (sym same) ∙ (numbers_tail first numbers value values are).0, inl refl)
  number_in (first ∷ numbers) (value ∷ values) are number (inr there) =
      let rest : (v : A) × (slice_get kept number ≡ Some v) × In v values = number_in numbers values (numbers_tail first numbers value values are).1 number there in
      (rest.0, rest.1, inr rest.2)

  -- each of them has a number there
  pub value_in : (numbers : List ℕ) (values : List A) → Numbers kept numbers values → (value : A) → In value values
      → (number : ℕ) × In number numbers × (slice_get kept number ≡ Some value)
  value_in numbers [] are value there = absurd there
  value_in [] (first ∷ values) are value there = absurd (cc are)
  value_in (number ∷ numbers) (first ∷ values) are value (inl same) = (number, inl refl, (numbers_tail number numbers first values are).0 ∙ ap Some same)
  value_in (number ∷ numbers) (first ∷ values) are value (inr there) =
      let rest : (n : ℕ) × In n numbers × (slice_get kept n ≡ Some value) = value_in numbers values (numbers_tail number numbers first values are).1 value there in
      (rest.0, inr rest.1, rest.2)

  -- at a place
  pub number_at : (numbers : List ℕ) (values : List A) → Numbers kept numbers values → (place number : ℕ) → slice_get numbers place ≡ Some number
      → (value : A) × (slice_get values place ≡ Some value) × (slice_get kept number ≡ Some value)
  number_at [] values are place number there = absurd (cc there)
  number_at (first ∷ numbers) [] are place number there = absurd (cc are)
  number_at (first ∷ numbers) (value ∷ values) are zero number there =
      (value, refl, sym (ap (slice_get kept) (same_Some first number there)) ∙ (numbers_tail first numbers value values are).0)
  number_at (first ∷ numbers) (value ∷ values) are (suc place) number there = number_at numbers values (numbers_tail first numbers value values are).1 place number there

  pub numbers_join : (one two : List ℕ) (xs ys : List A) → Numbers kept one xs → Numbers kept two ys → Numbers kept (one ++ two) (xs ++ ys)
  numbers_join [] two [] ys first second = second
  numbers_join [] two (x ∷ xs) ys first second = absurd (cc first)
  numbers_join (n ∷ one) two [] ys first second = absurd (cc first)
  numbers_join (n ∷ one) two (x ∷ xs) ys first second =
      let parts : (slice_get kept n ≡ Some x) × Numbers kept one xs = numbers_tail n one x xs first in
      numbers_more n (one ++ two) x (xs ++ ys) parts.0 (numbers_join one two xs ys parts.1 second)

  pub numbers_split : (front back : List ℕ) (values : List A) → Numbers kept (front ++ back) values
      → (xs ys : List A) × (values ≡ xs ++ ys) × Numbers kept front xs × Numbers kept back ys
  numbers_split [] back values are = ([], values, refl, refl, are)
  numbers_split (n ∷ front) back [] are = absurd (cc are)
  numbers_split (n ∷ front) back (value ∷ values) are =
      let parts : (slice_get kept n ≡ Some value) × Numbers kept (front ++ back) values = numbers_tail n (front ++ back) value values are in
      let rest : (xs ys : List A) × (values ≡ xs ++ ys) × Numbers kept front xs × Numbers kept back ys = numbers_split front back values parts.1 in
      (value ∷ rest.0, rest.1, ap (λ (l : List A). value ∷ l) rest.2, numbers_more n front value rest.0 parts.0 rest.3, rest.4)

  -- with one more somewhere among them
  pub numbers_with : (front back : List ℕ) (number : ℕ) (values : List A) (value : A) → Numbers kept (front ++ back) values → slice_get kept number ≡ Some value
      → (more : List A) × Numbers kept (front ++ number ∷ back) more
      × ((other : A) → (In other more → In other values ⊎ (other ≡ value)) × (In other values ⊎ (other ≡ value) → In other more))
  numbers_with front back number values value are is = (
    parts.0 ++ value ∷ parts.1,
    numbers_join front (number ∷ back) parts.0 (value ∷ parts.1) parts.3 (numbers_more number back value parts.1 is parts.4),
    λ other. (λ there. to other (in_append other parts.0 (value ∷ parts.1) there), λ either. from other either),
  )
    where
      parts : (xs ys : List A) × (values ≡ xs ++ ys) × Numbers kept front xs × Numbers kept back ys
      parts = numbers_split front back values are

      to : (other : A) → In other parts.0 ⊎ In other (value ∷ parts.1) → In other values ⊎ (other ≡ value)
      to other (inl there) = inl (subst (λ (l : List A). In other l) (sym parts.2) (in_left other parts.0 parts.1 there))
      to other (inr (inl same)) = inr (sym same)
      to other (inr (inr there)) = inl (subst (λ (l : List A). In other l) (sym parts.2) (in_right other parts.0 parts.1 there))

      wider : (other : A) → In other parts.0 ⊎ In other parts.1 → In other (parts.0 ++ value ∷ parts.1)
      wider other (inl there) = in_left other parts.0 (value ∷ parts.1) there
      wider other (inr there) = in_right other parts.0 (value ∷ parts.1) (inr there)

      from : (other : A) → In other values ⊎ (other ≡ value) → In other (parts.0 ++ value ∷ parts.1)
      from other (inl there) = wider other (in_append other parts.0 parts.1 (subst (λ (l : List A). In other l) parts.2 there))
      from other (inr same) = in_right other parts.0 (value ∷ parts.1) (inl (sym same))

-- what is kept keeps its number
pub numbers_grow : {A : Type 0} (old new : List A) → ((number : ℕ) (value : A) → slice_get old number ≡ Some value → slice_get new number ≡ Some value)
    → (numbers : List ℕ) (values : List A) → Numbers old numbers values → Numbers new numbers values
numbers_grow old new keeps [] [] are = refl
numbers_grow old new keeps [] (value ∷ values) are = absurd (cc are)
numbers_grow old new keeps (number ∷ numbers) [] are = absurd (cc are)
numbers_grow old new keeps (number ∷ numbers) (value ∷ values) are =
    let parts : (slice_get old number ≡ Some value) × Numbers old numbers values = numbers_tail old number numbers value values are in
    numbers_more new number numbers value values (keeps number value parts.0) (numbers_grow old new keeps numbers values parts.1)

-- ---- filters

-- fewer are left where the test fails once
pub filter_count : {A : Type 0} (test : A → Bool) (xs : List A)
    → (list_any test xs ≡ true → length (filter (λ x. not (test x)) xs) < length xs) × (list_any test xs ≡ false → length (filter (λ x. not (test x)) xs) ≡ length xs)
filter_count test [] = (λ is. absurd (cc is), λ is. refl)
filter_count test (x ∷ xs) = by (test x) (filter_count test xs) (filter_less test xs)
  where
    filter_less : {A : Type 0} (test : A → Bool) (xs : List A) → length (filter (λ x. not (test x)) xs) < suc (length xs)
    filter_less test [] = omega arith
    filter_less test (x ∷ xs) = step (test x) (filter_less test xs)
      where
        step : (b : Bool) → length (filter (λ x. not (test x)) xs) < suc (length xs)
            → length (if not b then x ∷ filter (λ x. not (test x)) xs else filter (λ x. not (test x)) xs) < suc (suc (length xs))
        step true less = omega (arith, less)
        step false less = omega (arith, less)

    by : (b : Bool)
        → (list_any test xs ≡ true → length (filter (λ x. not (test x)) xs) < length xs) × (list_any test xs ≡ false → length (filter (λ x. not (test x)) xs) ≡ length xs)
        → length (filter (λ x. not (test x)) xs) < suc (length xs)
        → ((b || list_any test xs) ≡ true → length (if not b then x ∷ filter (λ x. not (test x)) xs else filter (λ x. not (test x)) xs) < suc (length xs))
        × ((b || list_any test xs) ≡ false → length (if not b then x ∷ filter (λ x. not (test x)) xs else filter (λ x. not (test x)) xs) ≡ suc (length xs))
    by true both less = (λ is. less, λ is. absurd (cc is))
    by false both less = (λ is. let one = both.0 is in omega (arith, one), λ is. ap suc (both.1 is))

module _ {A : Type 0} where
  pub there_at : (xs : List A) (place : ℕ) → place < length xs → (x : A) × (slice_get xs place ≡ Some x)
  there_at [] place within = absurd (omega (arith, within))
  there_at (x ∷ xs) zero within = (x, refl)
  there_at (x ∷ xs) (suc place) within = there_at xs place (omega (arith, within))

-- each number stands for something
pub each_there : {A : Type 0} (kept : List A) (numbers : List ℕ) (values : List A) → Numbers kept numbers values → (place number : ℕ) → slice_get numbers place ≡ Some number
    → number < length kept
each_there {A = A} kept numbers values are place number there =
    let found : (value : A) × (slice_get values place ≡ Some value) × (slice_get kept number ≡ Some value) = number_at kept numbers values are place number there in
    slice_get_within kept number found.0 found.2

-- what is read at a place
pub get_read : {A : Type 0} (xs : List A) (place : ℕ) (x found : A) → slice_get xs place ≡ Some found → x ≡ get_or xs place x → x ≡ found
get_read [] place x found there is = absurd (cc there)
get_read (y ∷ xs) zero x found there is = is ∙ same_Some y found there
get_read (y ∷ xs) (suc place) x found there is = get_read xs place x found there is

times_head : (number x : ℕ) (numbers : List ℕ) → times number (x ∷ numbers) ≡ cond (x == number) 1 0 + times number numbers
times_head number x numbers = omega (arith, sum_by-append (λ (n : ℕ). cond (n == number) 1 0) (x ∷ []) numbers)

-- a number is among others where it is so once
pub among : (number : ℕ) (numbers : List ℕ) → (0 < times number numbers → In number numbers) × (In number numbers → 0 < times number numbers)
among number [] = (λ more. absurd (omega (arith, more)), λ there. absurd there)
among number (x ∷ numbers) = by (cases_eq x number) (among number numbers)
  where
    head : times number (x ∷ numbers) ≡ cond (x == number) 1 0 + times number numbers
    head = times_head number x numbers

    later : (x ≡ number → ⊥) → In number (x ∷ numbers) → In number numbers
    later other (inl same) = absurd (other same)
    later other (inr there) = there

    by : (x ≡ number) ⊎ (x ≡ number → ⊥) → (0 < times number numbers → In number numbers) × (In number numbers → 0 < times number numbers)
        → (0 < times number (x ∷ numbers) → In number (x ∷ numbers)) × (In number (x ∷ numbers) → 0 < times number (x ∷ numbers))
    by (inl same) rest =
        let one : ◌≡◌ {A = ℕ} (cond (x == number) 1 0) 1 = ap (λ b. cond b 1 0) (eq-eqb x number same) in
        (λ more. inl same, λ there. omega (arith, one, head))
    by (inr other) rest =
        let none : ◌≡◌ {A = ℕ} (cond (x == number) 1 0) 0 = ap (λ b. cond b 1 0) (ne_eqb x number other) in
        (λ more. inr (rest.0 (omega (arith, none, head, more))), λ there. (let some : 0 < times number numbers = rest.1 (later other there) in omega (arith, none, head, some)))

pub get_or_there : (xs : List ℕ) (place default : ℕ) → place < length xs → slice_get xs place ≡ Some (get_or xs place default)
get_or_there [] place default within = absurd (omega (arith, within))
get_or_there (x ∷ xs) zero default within = refl
get_or_there (x ∷ xs) (suc place) default within = get_or_there xs place default (omega (arith, within))

filter_suc : {A : Type 0} (test : A → Bool) (xs : List A) (place : ℕ) (x : A) → slice_get xs place ≡ Some x
    → filter test (take (suc place) xs) ≡ filter test (take place xs) ++ (if test x then x ∷ [] else [])
filter_suc test [] place x there = absurd (cc there)
filter_suc test (y ∷ xs) zero x there = ap (λ z. if test z then z ∷ [] else []) (same_Some y x there)
filter_suc test (y ∷ xs) (suc place) x there = by (test y) (filter_suc test xs place x there)
  where
    by : (b : Bool) → filter test (take (suc place) xs) ≡ filter test (take place xs) ++ (if test x then x ∷ [] else [])
        → (if b then y ∷ filter test (take (suc place) xs) else filter test (take (suc place) xs))
        ≡ (if b then y ∷ filter test (take place xs) else filter test (take place xs)) ++ (if test x then x ∷ [] else [])
    by true rest = ap (λ l. y ∷ l) rest
    by false rest = rest

-- what is left of a list so far, with the next of it
pub filter_next : {A : Type 0} (test : A → Bool) (xs : List A) (place : ℕ) (x : A) → slice_get xs place ≡ Some x
    → filter test (take (place + 1) xs) ≡ filter test (take place xs) ++ (if test x then x ∷ [] else [])
filter_next test xs place x there = ap (λ k. filter test (take k xs)) (add-one place) ∙ filter_suc test xs place x there

pub in_contains : {A : Type 0} (x : A) (xs : List A) → In x xs → Contains xs x
in_contains x [] there = absurd there
in_contains x (y ∷ xs) (inl same) = (0, omega arith, same)
in_contains x (y ∷ xs) (inr there) = let later : Contains xs x = in_contains x xs there in (suc later.0, (let within : later.0 < length xs = later.1 in omega (arith, within)), later.2)
