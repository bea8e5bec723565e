-- A file as it reads is one of its images, and where nothing has changed since the last sync it is
-- the only one.
use Rattle.std.specs.Prelude.{◌≡◌, ◌⊎◌, ℕ, ◌+◌, ◌-◌, ◌<◌, ◌≤◌, Bool, false, ◌&&◌, ◌||◌, nat_le, nat_lt, List, [], ◌∷◌, ◌++◌, length, take, drop, slice_index}
use Rattle.std.proofs.Common.{zero, suc, max, get_or, refl, ◌∙◌, ap, ⊎_elim, arith, length-take, length-append, length-drop}
use Rattle.std.proofs.lemmas.List.{get_or-take, get_or-drop, get_or_append_left, get_or-append_right, ext_get_or}
use Rattle.std.proofs.lemmas.Bool.Decides.{nat_tests}
use Rattle.rs_disk.specs.File.{Change, write, cut, File, AreBytes, AreWritesOfBytes, IsOfBytes, IsImage, contents, settled, read_of, overwritten, least_of, greatest_of, is_written}

-- a write changes no other place
pub overwritten_below : {A : Type 0} (at : ℕ) (items old : List A) (d : A) (place : ℕ) → place < at
    → place < length old
    → get_or (overwritten at items old) place d ≡ get_or old place d
overwritten_below at items old d place below inside =
    get_or_append_left (take at old ++ items) (drop (at + length items) old) d place
    (omega (arith, length-append (take at old) items, length-take at old))
    ∙ get_or_append_left (take at old) items d place (omega (arith, length-take at old))
    ∙ get_or-take at old place d below

pub overwritten_above : {A : Type 0} (at : ℕ) (items old : List A) (d : A) (place : ℕ) → at ≤ length old
    → at + length items ≤ place
    → get_or (overwritten at items old) place d ≡ get_or old place d
overwritten_above at items old d place fits above =
    let front : length (take at old ++ items)
    ≡ at + length items = omega (arith, length-append (take at old) items, length-take at old) in
    get_or-append_right (take at old ++ items) (drop (at + length items) old)
    (at + length items) place d front above
    ∙ get_or-drop (at + length items) old (place - (at + length items)) d
    ∙ ap (λ (k : ℕ). get_or old k d) (omega arith)

pub overwritten_within : {A : Type 0} (at : ℕ) (items old : List A) (d : A) (place : ℕ) → at ≤ length old
    → at ≤ place → place < at + length items
    → get_or (overwritten at items old) place d ≡ get_or items (place - at) d
overwritten_within at items old d place fits from to =
    get_or_append_left (take at old ++ items) (drop (at + length items) old) d place
    (omega (arith, length-append (take at old) items, length-take at old))
    ∙ get_or-append_right (take at old) items at place d (omega (arith, length-take at old)) from

pub length-overwritten : {A : Type 0} (at : ℕ) (items old : List A) → at ≤ length old
    → length (overwritten at items old) ≡ max (length old) (at + length items)
length-overwritten at items old fits =
    omega (
      arith,
      length-append (take at old ++ items) (drop (at + length items) old),
      length-append (take at old) items,
      length-take at old,
      length-drop (at + length items) old,
    )

pub least_is_least : (synced : List ℕ) (changes : List Change)
    → least_of synced changes ≤ length (read_of synced changes)
least_is_least synced [] = omega arith
least_is_least synced (change ∷ changes) = omega arith

greatest_is_greatest : (synced : List ℕ) (changes : List Change)
    → length (read_of synced changes) ≤ greatest_of synced changes
greatest_is_greatest synced [] = omega arith
greatest_is_greatest synced (change ∷ changes) = omega arith

not_here : (at n place : ℕ) (rest : Bool) → (nat_le at place && nat_lt place (at + n) || rest) ≡ false
    → ((place < at) ⊎ (at + n ≤ place)) × (rest ≡ false)
not_here at n place rest none = grind (arith, nat_tests)

-- a place that wasn't written reads as it was synced
pub unwritten : (synced : List ℕ) (changes : List Change) (place : ℕ) → place < least_of synced changes
    → is_written place changes ≡ false
    → slice_index (read_of synced changes) place ≡ slice_index synced place
unwritten synced [] place inside none = refl
unwritten synced (write at bytes ∷ changes) place inside none =
    let old = read_of synced changes in
    let apart = not_here at (length bytes) place (is_written place changes) none in
    let there : place < length old = omega (arith, least_is_least synced changes) in
    ⊎_elim (λ below. overwritten_below at bytes old 0 place below there)
    (λ above. overwritten_above at bytes old 0 place (omega arith) above) apart.0
    ∙ unwritten synced changes place (omega arith) apart.1
unwritten synced (cut to ∷ changes) place inside none =
    get_or-take to (read_of synced changes) place 0 (omega (arith, length-take to (read_of synced changes)))
    ∙ unwritten synced changes place (omega arith) none

bytes_append : (xs ys : List ℕ) → AreBytes xs → AreBytes ys → AreBytes (xs ++ ys)
bytes_append [] ys first second place = second place
bytes_append (x ∷ xs) ys first second zero = first zero
bytes_append (x ∷ xs) ys first second (suc place) = bytes_append xs ys (λ k. first (suc k)) second place

bytes_take : (n : ℕ) (xs : List ℕ) → AreBytes xs → AreBytes (take n xs)
bytes_take zero xs are place = omega arith
bytes_take (suc n) [] are place = omega arith
bytes_take (suc n) (x ∷ xs) are zero = are zero
bytes_take (suc n) (x ∷ xs) are (suc place) = bytes_take n xs (λ k. are (suc k)) place

bytes_drop : (n : ℕ) (xs : List ℕ) → AreBytes xs → AreBytes (drop n xs)
bytes_drop zero xs are place = are place
bytes_drop (suc n) [] are place = omega arith
bytes_drop (suc n) (x ∷ xs) are place = bytes_drop n xs (λ k. are (suc k)) place

read_bytes : (synced : List ℕ) (changes : List Change) → AreBytes synced → AreWritesOfBytes changes
    → AreBytes (read_of synced changes)
read_bytes synced [] are written = are
read_bytes synced (write at bytes ∷ changes) are written =
    let old = read_of synced changes in
    let before : AreBytes old = read_bytes synced changes are written.1 in
    bytes_append (take at old ++ bytes) (drop (at + length bytes) old)
    (bytes_append (take at old) bytes (bytes_take at old before) written.0)
    (bytes_drop (at + length bytes) old before)
read_bytes synced (cut to ∷ changes) are written =
    bytes_take to (read_of synced changes) (read_bytes synced changes are written)

-- what is read from a file of bytes is bytes
pub contents_bytes : (file : File) → IsOfBytes file → AreBytes (contents file)
contents_bytes file of = read_bytes file.synced file.changes of.synced of.written

pub read_is_image : (file : File) → IsImage file (contents file)
read_is_image file = record {
  no_shorter = least_is_least file.synced file.changes;
  no_longer = greatest_is_greatest file.synced file.changes;
  kept = unwritten file.synced file.changes;
  bytes = contents_bytes file;
}

pub only_image : (bytes image : List ℕ) → IsImage (settled bytes) image → image ≡ bytes
only_image bytes image is =
    let same : length image ≡ length bytes = omega (arith, is.no_shorter, is.no_longer) in
    ext_get_or 0 image bytes same (λ k inside. is.kept k (omega arith) refl)
