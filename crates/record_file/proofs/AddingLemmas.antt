-- Records that are added one after the other: the calls of the disk, and what a crash leaves in each of them.
use Rattle.std.proofs.Common.{◌≡◌, inl, inr, ℕ, suc, zero, ◌+◌, ◌^◌, ◌<◌, List, [], ◌∷◌, ◌++◌, length, take, drop, refl, sym, ◌∙◌, ap, subst, arith, append_assoc, append-nil, length-append, take-append-drop}
use Rattle.std.specs.Prelude.{◌≢◌, All, Vec, Result, Ok, Err, sum_by, slice_index_or}
use Rattle.std.proofs.lemmas.List.{take_more, drop_more}
use Rattle.std.proofs.lemmas.List.Sums.{sum_by-cons}
use Rattle.std.specs.Int.{to_le_bytes, w32}
use Rattle.std.specs.declared.alloc.Global.{Global}
use Rattle.rs_disk.specs.File.{File, IsImage, LeavesOnly, contents, settled}
use Rattle.rs_disk.specs.Moments.{EachMoment}
use Rattle.rs_disk.specs.State.{State, SameButRoom}
use Rattle.rs_disk.specs.Steps.{Step, in_step, after_step, after_steps, past_of, Makes, FailsWithin}
use Rattle.rs_disk.proofs.MomentLemmas.{EachLeaves, settled_leaves}
use Rattle.record_file.specs.Records.{AreOpen, HasRecords, body, lists}
use Rattle.record_file.specs.Files.{IsAtRest, IsOpen, IsRecordDisk, IsBeforeOrAfter, HasFirst, StopsBy, EndsBy, adding_steps, append_steps}
use Rattle.record_file.specs.declared.error.FileError.{FileError}
use Rattle.record_file.specs.declared.error.FileError.TheVariants.{Disk, Memory}
use Rattle.record_file.proofs.ListLemmas.{open_push}
use Rattle.record_file.proofs.AppendLemmas.{closed_has, each_leaves, file_after, rests}
use Rattle.record_file.proofs.StepLemmas.{ended_moments}

-- ---- some calls, and then others

files_append : (a b : List Step) (file : File) → after_steps (a ++ b) file ≡ after_steps b (after_steps a file)
files_append [] b file = refl
files_append (step ∷ a) b file = files_append a b (after_step step file)

pasts_append : (a b : List Step) (file : File) (past : List File) → past_of (a ++ b) file past ≡ past_of b (after_steps a file) (past_of a file past)
pasts_append [] b file past = refl
pasts_append (step ∷ a) b file past = pasts_append a b (after_step step file) (in_step step file ∷ file ∷ past)

makes_then : (a b : List Step) (old mid new : State) → Makes a old mid → Makes b mid new → Makes (a ++ b) old new
makes_then a b old mid new first second = record {
  file = second.file ∙ ap (after_steps b) first.file ∙ sym (files_append a b old.file);
  past = second.past ∙ (λ i. past_of b (first.file i) (first.past i)) ∙ sym (pasts_append a b old.file old.past);
}

-- how calls break off depends on the file and its past alone
breaks_from : (steps : List Step) (old other new : State) → old.file ≡ other.file → old.past ≡ other.past → FailsWithin steps old new → FailsWithin steps other new
breaks_from [] old other new file past none = none
breaks_from (step ∷ steps) old other new file past (inl crashed) =
    inl (record {
      reads = subst (λ (f : File). IsImage (in_step step f) (contents new.file)) file crashed.reads;
      leaves = subst (λ (f : File). LeavesOnly (IsImage (in_step step f)) new.file) file crashed.leaves;
      past = crashed.past ∙ (λ i. in_step step (file i) ∷ file i ∷ past i);
    })
breaks_from (step ∷ steps) old other new file past (inr (mid, is, later)) =
    inr (mid, record { file = is.file ∙ ap (after_step step) file; past = is.past ∙ (λ i. in_step step (file i) ∷ file i ∷ past i) }, later)

breaks_then : (a b : List Step) (old mid new : State) → Makes a old mid → FailsWithin b mid new → FailsWithin (a ++ b) old new
breaks_then [] b old mid new made breaks = breaks_from b mid old new made.file made.past breaks
breaks_then (step ∷ a) b old mid new made breaks =
    let first : State = record old { file = after_step step old.file; past = in_step step old.file ∷ old.file ∷ old.past } in
    inr (first, record { file = refl; past = refl }, breaks_then a b first mid new (record { file = made.file; past = made.past }) breaks)

breaks_before : (a b : List Step) (old new : State) → FailsWithin a old new → FailsWithin (a ++ b) old new
breaks_before [] b old new none = absurd none
breaks_before (step ∷ a) b old new (inl crashed) = inl crashed
breaks_before (step ∷ a) b old new (inr (mid, is, later)) = inr (mid, is, breaks_before a b mid new later)

first_leaves : (P : List ℕ → Type 0) (a : List Step) (file : File) → EachLeaves P a file → LeavesOnly P file
first_leaves P [] file leaves = leaves
first_leaves P (step ∷ a) file leaves = leaves.0

leaves_then : (P : List ℕ → Type 0) (a b : List Step) (file : File) → EachLeaves P a file → EachLeaves P b (after_steps a file) → EachLeaves P (a ++ b) file
leaves_then P [] b file first second = second
leaves_then P (step ∷ a) b file first second = (first.0, first.1, leaves_then P a b (after_step step file) first.2 second)

leaves_weaker : (P Q : List ℕ → Type 0) → ((image : List ℕ) → P image → Q image) → (a : List Step) (file : File) → EachLeaves P a file → EachLeaves Q a file
leaves_weaker P Q weaker [] file leaves = λ image is. weaker image (leaves image is)
leaves_weaker P Q weaker (step ∷ a) file leaves =
    (λ image is. weaker image (leaves.0 image is), λ image is. weaker image (leaves.1 image is), leaves_weaker P Q weaker a (after_step step file) leaves.2)

-- ---- the calls that add records

abbrev pub size_of : Vec ℕ Global → ℕ
size_of piece = length piece.items + 5

steps_append : (at : ℕ) (a b : List (Vec ℕ Global)) → adding_steps at (lists (a ++ b)) ≡ adding_steps at (lists a) ++ adding_steps (at + sum_by size_of a) (lists b)
steps_append at [] b = ap (λ (n : ℕ). adding_steps n (lists b)) (omega arith)
steps_append at (first ∷ a) b =
    let here = append_steps at (body first.items ++ 0 ∷ []) in
    let later = at + size_of first in
    ap (λ (l : List Step). here ++ l) (steps_append later a b)
    ∙ sym (append_assoc here (adding_steps later (lists a)) (adding_steps (later + sum_by size_of a) (lists b)))
    ∙ ap (λ (n : ℕ). (here ++ adding_steps later (lists a)) ++ adding_steps n (lists b)) (omega (arith, sum_by-cons size_of first a))

module _ (at : ℕ) (pieces : List (Vec ℕ Global)) (i : ℕ) (d : Vec ℕ Global) (within : i < length pieces) (old mid new : State)
    (made : Makes (adding_steps at (lists (take i pieces))) old mid) (long : length (contents mid.file) ≡ at + sum_by size_of (take i pieces)) where
  abbrev this : Vec ℕ Global
  this = slice_index_or pieces i d

  -- one record more
  pub adds_more : Makes (append_steps (length (contents mid.file)) (body this.items ++ 0 ∷ [])) mid new → Makes (adding_steps at (lists (take (i + 1) pieces))) old new
  adds_more added =
      subst (λ (l : List Step). Makes l old new) (sym (ap (λ (l : List (Vec ℕ Global)). adding_steps at (lists l)) (take_more pieces i d within) ∙ steps_append at (take i pieces) (this ∷ [])))
      (makes_then (adding_steps at (lists (take i pieces))) (append_steps (at + sum_by size_of (take i pieces)) (body this.items ++ 0 ∷ [])) old mid new made
      (subst (λ (n : ℕ). Makes (append_steps n (body this.items ++ 0 ∷ [])) mid new) long added))

  breaks_here : FailsWithin (append_steps (length (contents mid.file)) (body this.items ++ 0 ∷ [])) mid new → FailsWithin (adding_steps at (lists pieces)) old new
  breaks_here breaks =
      let further = drop (i + 1) pieces in
      let there = at + sum_by size_of (take i pieces) in
      let whole : take i pieces ++ this ∷ further ≡ pieces = ap (λ (l : List (Vec ℕ Global)). take i pieces ++ l) (sym (drop_more pieces i d within)) ∙ take-append-drop i pieces in
      subst (λ (l : List Step). FailsWithin l old new) (sym (steps_append at (take i pieces) (this ∷ further)) ∙ ap (λ (l : List (Vec ℕ Global)). adding_steps at (lists l)) whole)
      (breaks_then (adding_steps at (lists (take i pieces))) (adding_steps there (lists (this ∷ further))) old mid new made
      (breaks_before (append_steps there (body this.items ++ 0 ∷ [])) (adding_steps (there + size_of this) (lists further)) mid new
      (subst (λ (n : ℕ). FailsWithin (append_steps n (body this.items ++ 0 ∷ [])) mid new) long breaks)))

  -- the disk failed within it
  pub adds_stop : {T U : Type 0} (answer : Result T FileError) (result : Result U FileError) (error : FileError) → answer ≡ Err error → result ≡ Err error → result ≢ Err Memory
      → EndsBy result (append_steps (length (contents mid.file)) (body this.items ++ 0 ∷ [])) mid new → EndsBy answer (adding_steps at (lists pieces)) old new
  adds_stop {T = T} {U = U} answer result error is was not_memory ends =
      subst (λ (r : Result T FileError). EndsBy r (adding_steps at (lists pieces)) old new) (sym is)
      (stops error (λ memory. not_memory (was ∙ ap Err memory)) (subst (λ (r : Result U FileError). EndsBy r (append_steps (length (contents mid.file)) (body this.items ++ 0 ∷ [])) mid new) was ends))
    where
      stops : (e : FileError) → (e ≡ Memory → ⊥) → StopsBy e (append_steps (length (contents mid.file)) (body this.items ++ 0 ∷ [])) mid new → StopsBy e (adding_steps at (lists pieces)) old new
      stops Disk not breaks = breaks_here breaks
      stops Memory not first = absurd (not refl)

-- the same calls, by the bytes of the record
pub stops_here : {T : Type 0} (result : Result T FileError) (at : ℕ) (one other : List ℕ) (old new : State) → one ≡ other
    → EndsBy result (append_steps at (body one ++ 0 ∷ [])) old new → EndsBy result (append_steps at (body other ++ 0 ∷ [])) old new
stops_here result at one other old new same ends = subst (λ (l : List ℕ). EndsBy result (append_steps at (body l ++ 0 ∷ [])) old new) same ends

-- with the memory for them only the room has changed
pub ends_reserved : {T : Type 0} (result : Result T FileError) (pieces : List (List ℕ)) (old mid new : State) → SameButRoom old mid
    → EndsBy result (adding_steps (length (contents mid.file)) pieces) mid new → EndsBy result (adding_steps (length (contents old.file)) pieces) old new
ends_reserved (Ok x) pieces old mid new same made =
    let file : mid.file ≡ old.file = ap (λ (s : State). s.file) same in
    let past : mid.past ≡ old.past = ap (λ (s : State). s.past) same in
    subst (λ (f : File). Makes (adding_steps (length (contents f)) pieces) old new) file
    (record {
      file = made.file ∙ ap (after_steps (adding_steps (length (contents mid.file)) pieces)) file;
      past = made.past ∙ (λ i. past_of (adding_steps (length (contents mid.file)) pieces) (file i) (past i));
    })
ends_reserved (Err Disk) pieces old mid new same breaks =
    let file : mid.file ≡ old.file = ap (λ (s : State). s.file) same in
    subst (λ (f : File). FailsWithin (adding_steps (length (contents f)) pieces) old new) file
    (breaks_from (adding_steps (length (contents mid.file)) pieces) mid old new file (ap (λ (s : State). s.past) same) breaks)
ends_reserved (Err Memory) pieces old mid new same (made, rest, is, makes) =
    let file : mid.file ≡ old.file = ap (λ (s : State). s.file) same in
    let past : mid.past ≡ old.past = ap (λ (s : State). s.past) same in (
      made,
      rest,
      ap (λ (f : File). adding_steps (length (contents f)) pieces) (sym file) ∙ is,
      record { file = makes.file ∙ ap (after_steps made) file; past = makes.past ∙ (λ i. past_of made (file i) (past i)) },
    )

-- out of memory before the first of them
pub ends_before : {T : Type 0} (result : Result T FileError) (pieces : List (List ℕ)) (old new : State) → result ≡ Err Memory → SameButRoom old new
    → EndsBy result (adding_steps (length (contents old.file)) pieces) old new
ends_before {T = T} result pieces old new is same =
    subst (λ (r : Result T FileError). EndsBy r (adding_steps (length (contents old.file)) pieces) old new) (sym is)
    ([], adding_steps (length (contents old.file)) pieces, refl, record { file = ap (λ (s : State). s.file) same; past = ap (λ (s : State). s.past) same })

-- ---- what a crash leaves

first_none : (records added : List (List ℕ)) (image : List ℕ) → HasRecords image records → HasFirst records added image
first_none records added image has = ([], added, refl, subst (HasRecords image) (sym (append-nil records)) has)

first_one : (records : List (List ℕ)) (piece : List ℕ) (added : List (List ℕ)) (image : List ℕ) → IsBeforeOrAfter records piece image → HasFirst records (piece ∷ added) image
first_one records piece added image (inl before) = first_none records (piece ∷ added) image before
first_one records piece added image (inr after) = (piece ∷ [], added, refl, after)

first_more : (records : List (List ℕ)) (piece : List ℕ) (added : List (List ℕ)) (image : List ℕ) → HasFirst (records ++ piece ∷ []) added image → HasFirst records (piece ∷ added) image
first_more records piece added image (first, rest, is, has) =
    (piece ∷ first, rest, ap (λ (l : List (List ℕ)). piece ∷ l) is, subst (HasRecords image) (append_assoc records (piece ∷ []) first) has)

abbrev pub Small : List ℕ → Type 0
Small piece = length piece < 2 ^ 32

next_at : (front piece : List ℕ) (at : ℕ) → at ≡ length (front ++ 0 ∷ []) → at + (length piece + 5) ≡ length ((front ++ 1 ∷ body piece) ++ 0 ∷ [])
next_at front piece at is =
    omega (
      arith,
      is,
      length-append front (0 ∷ []),
      length-append (front ++ 1 ∷ body piece) (0 ∷ []),
      length-append front (1 ∷ body piece),
      length-append (to_le_bytes w32 (length piece)) piece,
    )

each_leaves_first : (records added : List (List ℕ)) (front : List ℕ) (at : ℕ) → AreOpen records front → All Small added → at ≡ length (front ++ 0 ∷ [])
    → EachLeaves (HasFirst records added) (adding_steps at added) (settled (front ++ 0 ∷ []))
each_leaves_first records [] front at opened small is =
    settled_leaves (HasFirst records []) (front ++ 0 ∷ []) (first_none records [] (front ++ 0 ∷ []) (closed_has records front opened (front ++ 0 ∷ []) [] refl))
each_leaves_first records (piece ∷ added) front at opened small is =
    let tail = body piece ++ 0 ∷ [] in
    let fits = small zero piece (omega arith) in
    let then_is = file_after records front opened piece fits at is tail refl in
    leaves_then (HasFirst records (piece ∷ added)) (append_steps at tail) (adding_steps (at + (length piece + 5)) added) (settled (front ++ 0 ∷ []))
    (leaves_weaker (IsBeforeOrAfter records piece) (HasFirst records (piece ∷ added)) (first_one records piece added) (append_steps at tail) (settled (front ++ 0 ∷ []))
    (each_leaves records front opened piece fits at is tail refl))
    (subst (EachLeaves (HasFirst records (piece ∷ added)) (adding_steps (at + (length piece + 5)) added)) (sym then_is)
    (leaves_weaker (HasFirst (records ++ piece ∷ []) added) (HasFirst records (piece ∷ added)) (first_more records piece added) (adding_steps (at + (length piece + 5)) added) (settled ((front ++ 1 ∷ body piece) ++ 0 ∷ []))
    (each_leaves_first (records ++ piece ∷ []) added (front ++ 1 ∷ body piece) (at + (length piece + 5)) (open_push records front 1 piece opened (omega arith) fits)
    (λ k d within. small (suc k) d (omega arith)) (next_at front piece at is))))

all_after : (records added : List (List ℕ)) (front : List ℕ) (at : ℕ) → AreOpen records front → All Small added → at ≡ length (front ++ 0 ∷ [])
    → (whole : List ℕ) × AreOpen (records ++ added) whole × (after_steps (adding_steps at added) (settled (front ++ 0 ∷ [])) ≡ settled (whole ++ 0 ∷ []))
all_after records [] front at opened small is = (front, subst (λ (l : List (List ℕ)). AreOpen l front) (sym (append-nil records)) opened, refl)
all_after records (piece ∷ added) front at opened small is =
    let tail = body piece ++ 0 ∷ [] in
    let fits = small zero piece (omega arith) in
    let later = at + (length piece + 5) in
    let then_is = file_after records front opened piece fits at is tail refl in
    let rest = all_after (records ++ piece ∷ []) added (front ++ 1 ∷ body piece) later (open_push records front 1 piece opened (omega arith) fits)
    (λ k d within. small (suc k) d (omega arith)) (next_at front piece at is) in (
      rest.0,
      subst (λ (l : List (List ℕ)). AreOpen l rest.0) (append_assoc records (piece ∷ []) added) rest.1,
      files_append (append_steps at tail) (adding_steps later added) (settled (front ++ 0 ∷ [])) ∙ ap (after_steps (adding_steps later added)) then_is ∙ rest.2,
    )

-- ---- records that are added to a file at rest

module _ (added : List (List ℕ)) (small : All Small added) (old new : State) where
  pub adds_moments : {T : Type 0} (result : Result T FileError) → EndsBy result (adding_steps (length (contents old.file)) added) old new
      → (records : List (List ℕ)) → IsAtRest old records → EachMoment (HasFirst records added) old new
  adds_moments result ends records rest =
      let steps = adding_steps (length (contents old.file)) added in
      ended_moments (HasFirst records added) result steps old new
      (subst (EachLeaves (HasFirst records added) steps) (sym rest.file)
      (each_leaves_first records added rest.front (length (contents old.file)) rest.open_records small (ap (λ (f : File). length (contents f)) rest.file))) ends

  pub adds_left : {T : Type 0} (result : Result T FileError) → EndsBy result (adding_steps (length (contents old.file)) added) old new → IsOpen old → IsRecordDisk new
  adds_left result ends is = record {
    leaves = λ image left. let first = (adds_moments result ends is.records is.rests).now image left in (is.records ++ first.0, first.3);
  }

  pub adds_rest : Makes (adding_steps (length (contents old.file)) added) old new → (records : List (List ℕ)) → IsAtRest old records → IsAtRest new (records ++ added)
  adds_rest made records rest =
      let all = all_after records added rest.front (length (contents old.file)) rest.open_records small (ap (λ (f : File). length (contents f)) rest.file) in record {
        front = all.0;
        open_records = all.1;
        file = made.file ∙ ap (after_steps (adding_steps (length (contents old.file)) added)) rest.file ∙ all.2;
      }

  pub adds_open : Makes (adding_steps (length (contents old.file)) added) old new → IsOpen old → IsOpen new
  adds_open made is = record { records = is.records ++ added; rests = adds_rest made is.records is.rests }

-- and with one record more
pub opens_more : (piece : List ℕ) (old new : State) → length piece < 2 ^ 32 → Makes (append_steps (length (contents old.file)) (body piece ++ 0 ∷ [])) old new → IsOpen old → IsOpen new
opens_more piece old new small made is =
    record { records = is.records ++ piece ∷ []; rests = rests is.records piece small old is.rests (body piece ++ 0 ∷ []) refl new made }
