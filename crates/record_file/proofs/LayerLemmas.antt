-- A layer above record files: what an opening of the file leaves of its records, it leaves of the layer's values.
use Rattle.std.proofs.Common.{ℕ, List}
use Rattle.rs_disk.specs.File.{LeavesOnly}
use Rattle.rs_disk.specs.Moments.{EachMoment, weakens}
use Rattle.rs_disk.specs.State.{State}
use Rattle.record_file.specs.Files.{IsOneOf}
use Rattle.record_file.specs.Layers.{IsOneLeft}
use Rattle.record_file.specs.Records.{HasRecords}

-- `moves`: bytes with the same records have the same value
module _ {A : Type 0} (Has : List ℕ → A → Type 0)
    (moves : (one other : List ℕ) (pieces : List (List ℕ)) (value : A) → HasRecords one pieces → HasRecords other pieces → Has one value → Has other value)
    (old new : State) (leaves : LeavesOnly (λ image. (value : A) × Has image value) old.file) where
  one_of : (image : List ℕ) → IsOneOf old image → IsOneLeft Has old image
  one_of image (pieces, has, (before, left, had)) =
      let found = leaves before left in (found.0, moves before image pieces found.0 had has found.1, (before, left, found.1))

  pub opens : EachMoment (IsOneOf old) old new → EachMoment (IsOneLeft Has old) old new
  opens moments = weakens (IsOneOf old) (IsOneLeft Has old) one_of old new moments

  pub opened_left : EachMoment (IsOneOf old) old new → LeavesOnly (λ image. (value : A) × Has image value) new.file
  opened_left moments image left = let one = one_of image (moments.now image left) in (one.0, one.1)
