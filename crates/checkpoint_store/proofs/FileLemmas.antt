-- Records that are added to a file, and what a crash leaves of it meanwhile.
use Rattle.std.proofs.Common.{◌≡◌, inr, ℕ, List, [], ◌∷◌, ◌++◌, length, map, take, drop, refl, sym, ap, subst, ◌∙◌, take-append-drop}
use Rattle.std.specs.Prelude.{All}
use Rattle.std.proofs.lemmas.List.{map-append, take-map, take_at}
use Rattle.std.proofs.lemmas.List.Elements.{All-append, All-take}
use Rattle.rs_disk.specs.File.{File, IsImage, LeavesOnly}
use Rattle.rs_disk.specs.Images.{only_image}
use Rattle.rs_disk.specs.Moments.{EachMoment, weakens}
use Rattle.rs_disk.specs.State.{State, SameButRoom}
use Rattle.record_file.specs.Records.{HasRecords}
use Rattle.record_file.specs.Files as files
use Rattle.checkpoint_store.specs.Layout.{Record, record_bytes}
use Rattle.checkpoint_store.specs.Spelled.{IsRecord}
use Rattle.checkpoint_store.specs.Files.{AreSpelled, HasList, IsAtRestWith, IsOpen}

pub open_is : (state : State) → IsOpen state → files.IsOpen state
open_is state is = record { records = map record_bytes is.records; rests = is.rests.rests }

-- a synced list of records is what every crash leaves
pub rest_leaves : (state : State) (records : List Record) → IsAtRestWith state records → LeavesOnly (λ image. HasList image records) state.file
rest_leaves state records rest image is = record {
  each = rest.each;
  has = inr (rest.rests.front, [], rest.rests.open_records, only_image (rest.rests.front ++ 0 ∷ []) image (subst (λ (f : File). IsImage f image) rest.rests.file is));
}

-- only the room has changed
pub rests_still : (old new : State) (records : List Record) → SameButRoom old new → IsAtRestWith old records → IsAtRestWith new records
rests_still old new records same rest = record {
  each = rest.each;
  rests = record { front = rest.rests.front; open_records = rest.rests.open_records; file = ap (λ (s : State). s.file) same ∙ rest.rests.file };
}

-- the records, and after them the first of those that are added
abbrev pub IsFront : List Record → List Record → List ℕ → Type 0
IsFront records added image =
    (front : List Record) × (rest : List Record) × (added ≡ front ++ rest) × HasList image (records ++ front)

module _ (added : List Record) (pieces : List (List ℕ)) (are : AreSpelled added pieces) where
  pub rests_with : (new : State) (records : List Record) → All IsRecord records → files.IsAtRest new (map record_bytes records ++ pieces) → IsAtRestWith new (records ++ added)
  rests_with new records each rests = record {
    each = All-append IsRecord records added each are.each;
    rests = subst (λ (l : List (List ℕ)). files.IsAtRest new l)
        (ap (λ (l : List (List ℕ)). map record_bytes records ++ l) are.spelled ∙ sym (map-append record_bytes records added)) rests;
  }

  front_is : (records : List Record) → All IsRecord records → (image : List ℕ) → files.HasFirst (map record_bytes records) pieces image → IsFront records added image
  front_is records each image (first, rest, is, has) =
      let n = length first in
      let front = take n added in
      let same : map record_bytes front ≡ first =
      sym (take-map record_bytes n added) ∙ ap (λ (l : List (List ℕ)). take n l) (sym are.spelled ∙ is) ∙ take_at first rest n refl in (
        front,
        drop n added,
        sym (take-append-drop n added),
        record {
          each = All-append IsRecord records front each (All-take IsRecord n added are.each);
          has = subst (HasRecords image) (ap (λ (l : List (List ℕ)). map record_bytes records ++ l) (sym same) ∙ sym (map-append record_bytes records front)) has;
        },
      )

  pub fronts : (old new : State) → ((before : List (List ℕ)) → files.IsAtRest old before → EachMoment (files.HasFirst before pieces) old new)
      → (records : List Record) → IsAtRestWith old records → EachMoment (IsFront records added) old new
  fronts old new moments records rest =
      weakens (files.HasFirst (map record_bytes records) pieces) (IsFront records added) (front_is records rest.each) old new (moments (map record_bytes records) rest.rests)
