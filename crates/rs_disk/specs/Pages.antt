-- How the bytes in memory represent a file.
use Rattle.std.specs.Prelude.{◌≡◌, ℕ, ◌+◌, ◌-◌, ◌<◌, ◌≤◌, List, ◌++◌, false, length, take, slice_index_or, slice_range, vec_capacity}
use Rattle.rs_disk.specs.File.{File, contents, least_of, is_written}
use Rattle.rs_disk.specs.declared.pages.Pages.{Pages}

-- how many bytes the file may have before memory is needed
abbrev pub room_of : Pages → ℕ
room_of pages = pages.room

-- the synced bytes are kept from the first place up to this one
abbrev pub last_of : Pages → ℕ
last_of pages = pages.first + length pages.kept.items

-- The ends are within the memory at hand. There is room for what may be written, and to keep all
-- that was synced.
pub record IsWithin (pages : Pages) : Type 0 where
  pub end : pages.end ≤ length pages.now.items
  pub synced : pages.synced ≤ length pages.now.items
  pub long : length pages.now.items ≤ pages.room
  pub first : pages.first ≤ pages.end
  pub last : last_of pages ≤ pages.synced
  pub marked : length pages.marks.items ≡ length pages.kept.items
  pub now : pages.room ≤ vec_capacity pages.now
  pub kept : pages.room ≤ vec_capacity pages.kept
  pub marks : pages.room ≤ vec_capacity pages.marks

-- what the last sync left, put together
abbrev pub synced_bytes : Pages → List ℕ
synced_bytes pages = (take pages.first pages.now.items ++ pages.kept.items)
    ++ slice_range pages.now.items (last_of pages) pages.synced

-- the pages hold the file
pub record Holds (pages : Pages) (file : File) : Type 0 where
  pub within : IsWithin pages
  pub contents : take pages.end pages.now.items ≡ contents file
  pub synced : synced_bytes pages ≡ file.synced
  pub least : pages.least ≡ least_of file.synced file.changes
  pub touched : (place : ℕ) → pages.first ≤ place → place < pages.least
      → slice_index_or pages.marks.items (place - pages.first) false ≡ is_written place file.changes
  -- what was written lies at or after this place
  pub first : pages.first ≤ pages.least
  pub untouched : (place : ℕ) → place < pages.first → is_written place file.changes ≡ false
