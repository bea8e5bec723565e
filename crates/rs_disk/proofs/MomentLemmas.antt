-- What a crash leaves at each moment of some calls, however they end.
use Rattle.std.proofs.Common.{inl, inr, ℕ, List, [], ◌∷◌, ◌++◌, refl, sym, subst, ◌∙◌, ap}
use Rattle.rs_disk.specs.File.{File, LeavesOnly, contents, settled}
use Rattle.rs_disk.specs.Images.{read_is_image, only_image}
use Rattle.rs_disk.specs.Moments.{EachMoment, starts, goes_on, joins}
use Rattle.rs_disk.specs.State.{State, IsDone}
use Rattle.rs_disk.specs.Steps.{Step, in_step, after_step, after_steps, past_of, Makes, MakesFirst, FailsWithin}

-- what is synced reads so after every crash
pub settled_leaves : (P : List ℕ → Type 0) (bytes : List ℕ) → P bytes → LeavesOnly P (settled bytes)
settled_leaves P bytes has image is = subst P (sym (only_image bytes image is)) has

-- a sync that succeeds leaves one of the outcomes from before it
pub synced_leaves : (P : List ℕ → Type 0) (file : File) → LeavesOnly P file → LeavesOnly P (settled (contents file))
synced_leaves P file here = settled_leaves P (contents file) (here (contents file) (read_is_image file))

-- at each moment of these calls a crash leaves bytes that have P
abbrev pub EachLeaves : (List ℕ → Type 0) → List Step → File → Type 0
EachLeaves P [] file = LeavesOnly P file
EachLeaves P (step ∷ steps) file = LeavesOnly P file × LeavesOnly P (in_step step file) × EachLeaves P steps (after_step step file)

module _ (P : List ℕ → Type 0) where
  at_first : (steps : List Step) (file : File) → EachLeaves P steps file → LeavesOnly P file
  at_first [] file leaves = leaves
  at_first (step ∷ steps) file leaves = leaves.0

  first_ones : (steps rest : List Step) (file : File) → EachLeaves P (steps ++ rest) file → EachLeaves P steps file
  first_ones [] rest file leaves = at_first rest file leaves
  first_ones (step ∷ steps) rest file leaves = (leaves.0, leaves.1, first_ones steps rest (after_step step file) leaves.2)

  -- the first call was done
  one_done : (step : Step) (steps : List Step) (old mid : State) → EachLeaves P (step ∷ steps) old.file → IsDone (in_step step old.file) (after_step step old.file) old mid
      → EachMoment P old mid × EachLeaves P steps mid.file
  one_done step steps old mid leaves is =
      let later : EachLeaves P steps mid.file = subst (EachLeaves P steps) (sym is.file) leaves.2 in
      (goes_on P old old mid (in_step step old.file) (starts P old leaves.0) is.past leaves.1 (at_first steps mid.file later), later)

  pub made_moments : (steps : List Step) (old new : State) → EachLeaves P steps old.file → Makes steps old new → EachMoment P old new
  made_moments [] old new leaves made = record { since = []; passed = made.past; left = tt; now = subst (LeavesOnly P) (sym made.file) leaves }
  made_moments (step ∷ steps) old new leaves made =
      let mid : State = record old { file = after_step step old.file; past = in_step step old.file ∷ old.file ∷ old.past } in
      let first = one_done step steps old mid leaves (record { file = refl; past = refl }) in
      joins P old mid new first.0 (made_moments steps mid new first.1 (record { file = made.file; past = made.past }))

  pub broken_moments : (steps : List Step) (old new : State) → EachLeaves P steps old.file → FailsWithin steps old new → EachMoment P old new
  broken_moments [] old new leaves none = absurd none
  broken_moments (step ∷ steps) old new leaves (inl crashed) =
      goes_on P old old new (in_step step old.file) (starts P old leaves.0) crashed.past leaves.1 (λ image left. leaves.1 image (crashed.leaves image left))
  broken_moments (step ∷ steps) old new leaves (inr later) =
      let first = one_done step steps old later.0 leaves later.1 in
      joins P old later.0 new first.0 (broken_moments steps later.0 new first.1 later.2)

  pub first_moments : (steps : List Step) (old new : State) → EachLeaves P steps old.file → MakesFirst steps old new → EachMoment P old new
  first_moments steps old new leaves (made, rest, is, makes) =
      made_moments made old new (first_ones made rest old.file (subst (λ (l : List Step). EachLeaves P l old.file) is leaves)) makes

-- one call before the others
pub makes_more : (step : Step) (steps : List Step) (old mid new : State) → IsDone (in_step step old.file) (after_step step old.file) old mid → Makes steps mid new
    → Makes (step ∷ steps) old new
makes_more step steps old mid new is made = record {
  file = made.file ∙ ap (after_steps steps) is.file;
  past = made.past ∙ (λ i. past_of steps (is.file i) (is.past i));
}
