-- What a crash at some moment since an earlier one may have left.
use Rattle.std.specs.Prelude.{◌≡◌, ℕ, List, [], ◌∷◌, ◌++◌}
use Rattle.std.specs.List.{AllByRecursion}
use Rattle.std.proofs.Common.{refl, sym, ◌∙◌, ap}
use Rattle.std.proofs.lemmas.List.{append_assoc}
use Rattle.rs_disk.specs.File.{File, LeavesOnly}
use Rattle.rs_disk.specs.State.{State, Passed}

-- At each moment since old, also within a call, a crash left bytes that satisfy P.
pub record EachMoment (P : List ℕ → Type 0) (old new : State) : Type 0 where
  -- what the file was at the moments since, the newest first
  pub since : List File
  pub passed : new.past ≡ since ++ old.past
  pub left : AllByRecursion (LeavesOnly P) since
  pub now : LeavesOnly P new.file

pub starts : (P : List ℕ → Type 0) (state : State) → LeavesOnly P state.file → EachMoment P state state
starts P state here = record { since = []; passed = refl; left = tt; now = here }

-- one more call
pub goes_on : (P : List ℕ → Type 0) (old mid new : State) (during : File) → EachMoment P old mid
    → Passed during mid new → LeavesOnly P during → LeavesOnly P new.file
    → EachMoment P old new
goes_on P old mid new during so_far passed while_it_goes here = record {
  since = during ∷ mid.file ∷ so_far.since;
  passed = passed ∙ ap (λ (l : List File). during ∷ mid.file ∷ l) so_far.passed;
  left = (while_it_goes, (so_far.now, so_far.left));
  now = here;
}

all_append : (P : File → Type 0) (xs ys : List File) → AllByRecursion P xs → AllByRecursion P ys
    → AllByRecursion P (xs ++ ys)
all_append P [] ys none others = others
all_append P (x ∷ xs) ys (first, rest) others = (first, all_append P xs ys rest others)

all_weaker : (P Q : File → Type 0) → ((file : File) → P file → Q file)
    → (xs : List File) → AllByRecursion P xs → AllByRecursion Q xs
all_weaker P Q weaker [] none = tt
all_weaker P Q weaker (x ∷ xs) (first, rest) = (weaker x first, all_weaker P Q weaker xs rest)

-- one run after another
pub joins : (P : List ℕ → Type 0) (old mid new : State) → EachMoment P old mid → EachMoment P mid new
    → EachMoment P old new
joins P old mid new first later = record {
  since = later.since ++ first.since;
  passed = later.passed ∙ ap (λ (l : List File). later.since ++ l) first.passed ∙ sym
      (append_assoc later.since first.since old.past);
  left = all_append (LeavesOnly P) later.since first.since later.left first.left;
  now = later.now;
}

pub weakens : (P Q : List ℕ → Type 0) → ((image : List ℕ) → P image → Q image)
    → (old new : State) → EachMoment P old new → EachMoment Q old new
weakens P Q weaker old new moments = record {
  since = moments.since;
  passed = moments.passed;
  left = all_weaker (LeavesOnly P) (LeavesOnly Q)
      (λ file leaves image is. weaker image (leaves image is)) moments.since moments.left;
  now = λ image is. weaker image (moments.now image is);
}
