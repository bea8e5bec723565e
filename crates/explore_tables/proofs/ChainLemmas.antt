-- The chains of an index, with one item more in them.
use Rattle.std.proofs.Common.{◌≡◌, ◌⊎◌, ◌<◌, ◌≤◌, ◌+◌, inl, inr, arith, ℕ, length, List, get_or}
use Rattle.std.proofs.Math.ListN.{set}
use Rattle.std.proofs.lemmas.Bool.{cases_eq}
use Rattle.std.proofs.lemmas.List.{get_or-set_same, get_or-set_other, length-set}
use Rattle.explore_tables.specs.Chains.{AreChained}
use Rattle.explore_tables.specs.declared.index.Item.{Item}

set_head : (heads : List ℕ) (chain place : ℕ) → chain < length heads → ((k : ℕ) → get_or heads k 0 ≤ place) → (k : ℕ) → get_or (set heads chain (place + 1)) k 0 ≤ place + 1
set_head heads chain place within below k = go (cases_eq k chain)
  where
    go : (k ≡ chain) ⊎ (k ≡ chain → ⊥) → get_or (set heads chain (place + 1)) k 0 ≤ place + 1
    go (inl same) = rw same (omega (arith, get_or-set_same heads chain (place + 1) 0 within))
    go (inr other) = omega (arith, get_or-set_other heads chain k (place + 1) 0 other, below k)

set_item : (items : List Item) (place : ℕ) (item : Item) → place < length items → item.older ≤ place
    → ((at : ℕ) (d : Item) → at < length items → (get_or items at d).older ≤ at)
    → (at : ℕ) (d : Item) → at < length items → (get_or (set items place item) at d).older ≤ at
set_item items place item within older below at d less = go (cases_eq at place)
  where
    go : (at ≡ place) ⊎ (at ≡ place → ⊥) → (get_or (set items place item) at d).older ≤ at
    go (inl same) = rw (same, get_or-set_same items place item d within) older
    go (inr other) = rw (get_or-set_other items place at item d other) (below at d less)

pub linked : (place chain : ℕ) (heads : List ℕ) (items : List Item) (item : Item) → place < length items → chain < length heads → AreChained place heads items → item.older ≤ place
    → AreChained (place + 1) (set heads chain (place + 1)) (set items place item)
linked place chain heads items item within there chained older = record {
  begins = set_head heads chain place there chained.begins;
  goes_on = λ at d less. set_item items place item within older chained.goes_on at d (omega (arith, less, length-set items place item));
  few = omega (arith, length-set items place item, chained.few);
}

-- an item whose chain there is not
pub unlinked : (place : ℕ) (heads : List ℕ) (items : List Item) (d : Item) → place < length items → AreChained place heads items
    → AreChained (place + 1) heads (set items place (get_or items place d))
unlinked place heads items d within chained = record {
  begins = λ k. omega (arith, chained.begins k);
  goes_on = λ at other less. set_item items place (get_or items place d) within (chained.goes_on place d within) chained.goes_on at other (omega (arith, less, length-set items place (get_or items place d)));
  few = omega (arith, length-set items place (get_or items place d), chained.few);
}
