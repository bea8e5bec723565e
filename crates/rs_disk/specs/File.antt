-- A file between two syncs, and what a crash may leave of it.
--
-- The model is a disk with a volatile cache. After a crash between two syncs, each range that was written,
-- and everything after the least end that the file has had, may hold any bytes: old, new or neither. The file
-- may then end anywhere from the least to the greatest end that it has had. All other bytes stay. A sync that
-- succeeds leaves one outcome. Bytes are numbers below 256, and a file is a list of them.
use Rattle.std.specs.Prelude.{◌≡◌, ℕ, ◌+◌, ◌<◌, ◌≤◌, min, max, Bool, false, ◌&&◌, ◌||◌, nat_le, nat_lt, List, [], ◌∷◌, ◌++◌, length, take, drop, slice_index, ⊤}

-- a change since the last sync
pub data Change : Type 0 where
  write : (at : ℕ) (bytes : List ℕ) → Change
  cut : (to : ℕ) → Change

-- what was synced last, and the changes since, the newest first
pub record File : Type 0 where
  pub synced : List ℕ
  pub changes : List Change

-- these bytes, and no change since they were synced
abbrev pub settled : List ℕ → File
settled bytes = record { synced = bytes; changes = [] }

abbrev pub changed : Change → File → File
changed change file = record { synced = file.synced; changes = change ∷ file.changes }

-- the old bytes, overwritten with these from that place on, possibly past the end
abbrev pub overwritten : {A : Type 0} → ℕ → List A → List A → List A
overwritten at bytes old = take at old ++ bytes ++ drop (at + length bytes) old

abbrev pub applied : Change → List ℕ → List ℕ
applied (write at bytes) old = overwritten at bytes old
applied (cut to) old = take to old

abbrev pub read_of : List ℕ → List Change → List ℕ
read_of synced [] = synced
read_of synced (change ∷ changes) = applied change (read_of synced changes)

-- what a read gives
abbrev pub contents : File → List ℕ
contents file = read_of file.synced file.changes

-- the least end of the file since the last sync
abbrev pub least_of : List ℕ → List Change → ℕ
least_of synced [] = length synced
least_of synced (change ∷ changes) =
    min (least_of synced changes) (length (read_of synced (change ∷ changes)))

-- the greatest end of the file since the last sync
abbrev pub greatest_of : List ℕ → List Change → ℕ
greatest_of synced [] = length synced
greatest_of synced (change ∷ changes) =
    max (greatest_of synced changes) (length (read_of synced (change ∷ changes)))

-- the place has been written since the last sync
abbrev pub is_written : ℕ → List Change → Bool
is_written place [] = false
is_written place (write at bytes ∷ changes) =
    nat_le at place && nat_lt place (at + length bytes) || is_written place changes
is_written place (cut to ∷ changes) = is_written place changes

-- numbers below 256; a place past the end counts as 0
abbrev pub AreBytes : List ℕ → Type 0
AreBytes list = (place : ℕ) → slice_index list place < 256

abbrev pub AreWritesOfBytes : List Change → Type 0
AreWritesOfBytes [] = ⊤
AreWritesOfBytes (write at bytes ∷ changes) = AreBytes bytes × AreWritesOfBytes changes
AreWritesOfBytes (cut to ∷ changes) = AreWritesOfBytes changes

-- only bytes were synced, and only bytes were written
pub record IsOfBytes (file : File) : Type 0 where
  pub synced : AreBytes file.synced
  pub written : AreWritesOfBytes file.changes

-- a crash may leave these bytes
pub record IsImage (file : File) (image : List ℕ) : Type 0 where
  pub no_shorter : least_of file.synced file.changes ≤ length image
  pub no_longer : length image ≤ greatest_of file.synced file.changes
  pub kept : (place : ℕ) → place < least_of file.synced file.changes → is_written place file.changes ≡ false
      → slice_index image place ≡ slice_index file.synced place
  pub bytes : IsOfBytes file → AreBytes image

-- each outcome of a crash has this property
abbrev pub LeavesOnly : (List ℕ → Type 0) → File → Type 0
LeavesOnly P file = (image : List ℕ) → IsImage file image → P image

-- it reads as empty, and a crash leaves it empty
pub record IsEmpty (file : File) : Type 0 where
  pub reads : contents file ≡ []
  pub leaves : LeavesOnly (λ image. image ≡ []) file
