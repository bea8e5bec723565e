-- What it means that an optime is before another, or at most as late.
use Rattle.std.proofs.Common.{◌≡◌, ◌<◌, ◌≤◌, ◌⊎◌, inl, inr, ap₂, sym, refl, ap, arith, Bool, true, false, cond, ℕ}
use Rattle.std.proofs.lemmas.Bool.{cases_order, cases_Bool}
use Rattle.rs_optime.specs.Order.{is_before, Before, AtMost}
use Rattle.rs_optime.specs.Later.{earlier_of, later_of}
use Rattle.rs_optime.specs.declared.optime.OpTime.{OpTime}

pub earlier_term : (a b : OpTime) → a.term < b.term → Before a b
earlier_term a b less = grind arith

pub earlier_time : (a b : OpTime) → a.term ≡ b.term → a.ts < b.ts → Before a b
earlier_time a b same less = grind arith

pub later_term : (a b : OpTime) → b.term < a.term → AtMost b a
later_term a b more = grind arith

pub later_time : (a b : OpTime) → a.term ≡ b.term → b.ts ≤ a.ts → AtMost b a
later_time a b same more = grind arith

-- an earlier term, or the same one and an earlier timestamp
pub before_parts : (a b : OpTime) → Before a b → (a.term < b.term) ⊎ ((a.term ≡ b.term) × (a.ts < b.ts))
before_parts a b before =
    elim (cases_order a.term b.term) [
      | inl same ↦ elim (cases_order a.ts b.ts) [
        | inl equal ↦ let late : is_before a b ≡ false = later_time a b same (omega arith) in absurd (cc)
        | inr other ↦ elim other [
          | inl less ↦ inr (same, less)
          | inr more ↦ let late : is_before a b ≡ false = later_time a b same (omega arith) in absurd (cc)
        ]
      ]
      | inr other ↦ elim other [
        | inl less ↦ inl less
        | inr more ↦ let late : is_before a b ≡ false = later_term a b more in absurd (cc)
      ]
    ]

pub at_most_parts : (a b : OpTime) → AtMost a b → (a.term < b.term) ⊎ ((a.term ≡ b.term) × (a.ts ≤ b.ts))
at_most_parts a b late =
    elim (cases_order b.term a.term) [
      | inl same ↦ elim (cases_order b.ts a.ts) [
        | inl equal ↦ inr (sym same, omega arith)
        | inr other ↦ elim other [
          | inl less ↦ let before : is_before b a ≡ true = earlier_time b a same less in absurd (cc)
          | inr more ↦ inr (sym same, omega arith)
        ]
      ]
      | inr other ↦ elim other [
        | inl less ↦ let before : is_before b a ≡ true = earlier_term b a less in absurd (cc)
        | inr more ↦ inl more
      ]
    ]

pub before_from : (a b : OpTime) → (a.term < b.term) ⊎ ((a.term ≡ b.term) × (a.ts < b.ts)) → Before a b
before_from a b (inl less) = earlier_term a b less
before_from a b (inr same) = earlier_time a b same.0 same.1

pub at_most_from : (a b : OpTime) → (a.term < b.term) ⊎ ((a.term ≡ b.term) × (a.ts ≤ b.ts)) → AtMost a b
at_most_from a b (inl less) = later_term b a less
at_most_from a b (inr same) = later_time b a (sym same.0) same.1

-- what an optime is before by both numbers
pub before_both : (a b : OpTime) → a.term ≤ b.term → a.ts < b.ts → Before a b
before_both a b term ts = elim (cases_order a.term b.term) [
  | inl same ↦ earlier_time a b same ts
  | inr other ↦ elim other [ inl less ↦ earlier_term a b less | inr more ↦ absurd (omega arith) ]
]

pub at_most_term : (a b : OpTime) → AtMost a b → a.term ≤ b.term
at_most_term a b within = elim (at_most_parts a b within) [ inl less ↦ omega arith | inr same ↦ omega (arith, same.0) ]

pub same_optime : (a b : OpTime) → a.term ≡ b.term → a.ts ≡ b.ts → a ≡ b
same_optime a b term ts = ap₂ (λ (t s : ℕ). let o : OpTime = record { term = t; ts = s } in o) term ts

pub at_most_refl : (a : OpTime) → AtMost a a
at_most_refl a = at_most_from a a (inr (refl, omega arith))

pub at_most_of_same : (a b : OpTime) → a ≡ b → AtMost a b
at_most_of_same a b same =
    let term : a.term ≡ b.term = ap (λ (o : OpTime). o.term) same in
    let ts : a.ts ≡ b.ts = ap (λ (o : OpTime). o.ts) same in
    at_most_from a b (inr (term, omega arith))

pub at_most_trans : (a b c : OpTime) → AtMost a b → AtMost b c → AtMost a c
at_most_trans a b c one two = elim (at_most_parts a b one) [
  | inl less ↦ elim (at_most_parts b c two) [ inl more ↦ at_most_from a c (inl (omega arith)) | inr same ↦ at_most_from a c (inl (omega (arith, same.0))) ]
  | inr equal ↦ elim (at_most_parts b c two) [
    | inl more ↦ at_most_from a c (inl (omega (arith, equal.0)))
    | inr same ↦ at_most_from a c (inr (omega (arith, equal.0, same.0), omega (arith, equal.1, same.1)))
  ]
]

pub at_most_antisym : (a b : OpTime) → AtMost a b → AtMost b a → a ≡ b
at_most_antisym a b one two = elim (at_most_parts a b one) [
  | inl less ↦ elim (at_most_parts b a two) [ inl more ↦ absurd (omega arith) | inr same ↦ absurd (omega (arith, same.0)) ]
  | inr equal ↦ elim (at_most_parts b a two) [
    | inl more ↦ absurd (omega (arith, equal.0))
    | inr same ↦ same_optime a b equal.0 (omega (arith, equal.1, same.1))
  ]
]

pub at_most_or_before : (a b : OpTime) → AtMost a b ⊎ Before b a
at_most_or_before a b = elim (cases_Bool (is_before b a)) [ inl before ↦ inr before | inr late ↦ inl late ]

pub before_at_most : (a b : OpTime) → Before a b → AtMost a b
before_at_most a b before = elim (before_parts a b before) [
  | inl less ↦ at_most_from a b (inl less)
  | inr same ↦ at_most_from a b (inr (same.0, omega (arith, same.1)))
]

-- what is before another one is not at or after it
pub not_both : (a b : OpTime) → Before a b → AtMost b a → ⊥
not_both a b before late = elim (before_parts a b before) [
  | inl less ↦ elim (at_most_parts b a late) [ inl more ↦ omega arith | inr same ↦ omega (arith, same.0) ]
  | inr equal ↦ elim (at_most_parts b a late) [ inl more ↦ omega (arith, equal.0) | inr same ↦ omega (arith, equal.1, same.1) ]
]

pub before_at_most_trans : (a b c : OpTime) → Before a b → AtMost b c → Before a c
before_at_most_trans a b c before within = elim (at_most_or_before c a) [
  | inl back ↦ absurd (not_both a b before (at_most_trans b c a within back))
  | inr found ↦ found
]

pub at_most_before_trans : (a b c : OpTime) → AtMost a b → Before b c → Before a c
at_most_before_trans a b c within before = elim (at_most_or_before c a) [
  | inl back ↦ absurd (not_both b c before (at_most_trans c a b back within))
  | inr found ↦ found
]

pub before_trans : (a b c : OpTime) → Before a b → Before b c → Before a c
before_trans a b c one two = before_at_most_trans a b c one (before_at_most b c two)

-- what is no later in both numbers is before what the other is before
pub before_too : (one two at : OpTime) → one.ts ≤ two.ts → one.term ≤ two.term → Before two at → Before one at
before_too one two at ts term before = elim (before_parts two at before) [
  | inl less ↦ earlier_term one at (omega arith)
  | inr same ↦ before_both one at (omega (arith, same.0)) (omega (arith, same.1))
]

-- what holds of two optimes holds of the earlier
pub earlier_by : (P : OpTime → Type 0) (a b : OpTime) → P a → P b → P (earlier_of a b)
earlier_by P a b first second = elim (is_before a b) as (λ c. P (cond c a b)) [ true ↦ first | false ↦ second ]

-- the earlier and the later of two is one of them, and bounds both
pub earlier_cases : (a b : OpTime) → ((earlier_of a b ≡ a) × Before a b) ⊎ ((earlier_of a b ≡ b) × AtMost b a)
earlier_cases a b = go (is_before a b) refl
  where
    go : (test : Bool) → is_before a b ≡ test → ((cond test a b ≡ a) × Before a b) ⊎ ((cond test a b ≡ b) × AtMost b a)
    go true is = inl (refl, is)
    go false is = inr (refl, is)

pub later_cases : (a b : OpTime) → ((later_of a b ≡ b) × Before a b) ⊎ ((later_of a b ≡ a) × AtMost b a)
later_cases a b = go (is_before a b) refl
  where
    go : (test : Bool) → is_before a b ≡ test → ((cond test b a ≡ b) × Before a b) ⊎ ((cond test b a ≡ a) × AtMost b a)
    go true is = inl (refl, is)
    go false is = inr (refl, is)

pub earlier_left : (a b : OpTime) → AtMost (earlier_of a b) a
earlier_left a b = elim (earlier_cases a b) [
  | inl one ↦ at_most_of_same (earlier_of a b) a one.0
  | inr two ↦ at_most_trans (earlier_of a b) b a (at_most_of_same (earlier_of a b) b two.0) two.1
]

pub earlier_right : (a b : OpTime) → AtMost (earlier_of a b) b
earlier_right a b = elim (earlier_cases a b) [
  | inl one ↦ at_most_trans (earlier_of a b) a b (at_most_of_same (earlier_of a b) a one.0) (before_at_most a b one.1)
  | inr two ↦ at_most_of_same (earlier_of a b) b two.0
]

-- what is at most each of two is at most the earlier
pub at_most_earlier : (c a b : OpTime) → AtMost c a → AtMost c b → AtMost c (earlier_of a b)
at_most_earlier c a b one two = elim (earlier_cases a b) [
  | inl left ↦ at_most_trans c a (earlier_of a b) one (at_most_of_same a (earlier_of a b) (sym left.0))
  | inr right ↦ at_most_trans c b (earlier_of a b) two (at_most_of_same b (earlier_of a b) (sym right.0))
]

pub later_left : (a b : OpTime) → AtMost a (later_of a b)
later_left a b = elim (later_cases a b) [
  | inl right ↦ at_most_trans a b (later_of a b) (before_at_most a b right.1) (at_most_of_same b (later_of a b) (sym right.0))
  | inr left ↦ at_most_of_same a (later_of a b) (sym left.0)
]

pub later_at_most : (c a b : OpTime) → AtMost a c → AtMost b c → AtMost (later_of a b) c
later_at_most c a b one two = elim (later_cases a b) [
  | inl right ↦ at_most_trans (later_of a b) b c (at_most_of_same (later_of a b) b right.0) two
  | inr left ↦ at_most_trans (later_of a b) a c (at_most_of_same (later_of a b) a left.0) one
]
