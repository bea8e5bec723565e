-- Which image of a file in memory a power cut leaves, by its pick.
use Rattle.std.specs.Prelude.{ℕ, zero, suc, ◌+◌, ◌%◌, Bool, ◌||◌, nat_le, if◌then◌else◌, List, [], ◌∷◌}
use Rattle.rs_disk.specs.File.{File, contents, least_of, is_written}

-- a crash may leave any byte at this place
abbrev pub is_open : File → ℕ → Bool
is_open file place = is_written place file.changes || nat_le (least_of file.synced file.changes) place

-- these bytes from that place on, where the pick and the place determine each byte that may be any
abbrev pub filled : ℕ → File → ℕ → List ℕ → List ℕ
filled pick file place [] = []
filled pick file place (byte ∷ bytes) =
    (if is_open file place then (pick + place) % 256 else byte) ∷ filled pick file (place + 1) bytes

-- 0 leaves what was synced, 1 what a read gives, and any other pick other bytes
abbrev pub picked : ℕ → File → List ℕ
picked zero file = file.synced
picked (suc zero) file = contents file
picked pick file = filled pick file 0 (contents file)
