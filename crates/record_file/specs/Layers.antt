-- What is on a disk, as a layer above record files sees it: `Has image value` says that the bytes have that
-- value. The file itself is the lowest layer; its values are its records.
use Rattle.std.specs.Prelude.{ℕ, List}
use Rattle.rs_disk.specs.File.{IsImage}
use Rattle.rs_disk.specs.State.{State}

-- a crash may leave this value
abbrev pub MayLeave : {A : Type 0} → (Has : List ℕ → A → Type 0) → State → A → Type 0
MayLeave Has state value = (image : List ℕ) × IsImage state.file image × Has image value

-- the bytes have a value, and it is one that the disk might have had
abbrev pub IsOneLeft : {A : Type 0} → (Has : List ℕ → A → Type 0) → State → List ℕ → Type 0
IsOneLeft {A} Has state image = (value : A) × Has image value × MayLeave Has state value
