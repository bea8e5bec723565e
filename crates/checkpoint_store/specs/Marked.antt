-- Where the last whole checkpoint is among the records of a file.
use Rattle.std.specs.Prelude.{◌≡◌, ◌<◌, ◌≤◌, ℕ, List, take, fold, slice_range, IsSome, Option, None, Some}
use Rattle.checkpoint_store.specs.Checkpoint.{SoFar, last_whole, nothing_yet, with_record}
use Rattle.checkpoint_store.specs.Layout.{Record}

-- the state that the records add up to
abbrev pub come_to : List Record → SoFar
come_to records = fold with_record nothing_yet records

-- where a checkpoint begins that has not ended yet
abbrev pub IsBegun : List Record → ℕ → Option ℕ → Type 0
IsBegun records count None = (come_to (take count records)).begun ≡ None
IsBegun records count (Some place) = (place < count) × IsSome (come_to (take count records)).begun
    × ((come_to (slice_range records place count)).begun ≡ (come_to (take count records)).begun)

-- the last whole checkpoint of the first count records is the one between two places
pub record Marks (records : List Record) (count from to : ℕ) (begun : Option ℕ) : Type 0 where
  pub from_is : from ≤ to
  pub to_is : to ≤ count
  pub whole : last_whole (slice_range records from to) ≡ (come_to (take count records)).whole
  pub begun_is : IsBegun records count begun
