-- The chains of an index.
use Rattle.std.specs.Prelude.{◌<◌, ◌≤◌, ◌^◌, ℕ, List, length, slice_index, slice_index_or}
use Rattle.explore_tables.specs.declared.index.Item.{Item}

-- Chains begin with items before this place, and go on from each item to an older one: so they end.
pub record AreChained (place : ℕ) (heads : List ℕ) (items : List Item) : Type 0 where
  pub begins : (chain : ℕ) → slice_index heads chain ≤ place
  pub goes_on : (at : ℕ) (item : Item) → at < length items → (slice_index_or items at item).older ≤ at
  pub few : length items < 2 ^ 32
