-- How far the calls of an opening get, by how each of them ends.
use Rattle.std.proofs.Common.{◌≡◌, ◌-◌, inl, inr, List, [], ◌∷◌, ◌++◌, ℕ, refl, sym, ap, subst, ◌∙◌, append_assoc}
use Rattle.std.specs.Prelude.{Result, Ok, Err}
use Rattle.rs_disk.specs.File.{write}
use Rattle.rs_disk.specs.Moments.{EachMoment}
use Rattle.rs_disk.specs.State.{State, IsDone}
use Rattle.rs_disk.specs.Steps.{Step, in_step, after_step, Makes, changes, syncs}
use Rattle.rs_disk.proofs.MomentLemmas.{EachLeaves, makes_more, made_moments, broken_moments, first_moments}
use Rattle.record_file.specs.Files.{StopsBy, EndsBy, append_steps}
use Rattle.record_file.specs.declared.error.FileError.{FileError}
use Rattle.record_file.specs.declared.error.FileError.TheVariants.{Disk, Memory}

-- one call before the others
pub stops_more : (error : FileError) (step : Step) (steps : List Step) (old mid new : State) → IsDone (in_step step old.file) (after_step step old.file) old mid
    → StopsBy error steps mid new → StopsBy error (step ∷ steps) old new
stops_more Disk step steps old mid new is stops = inr (mid, is, stops)
stops_more Memory step steps old mid new is (made, rest, same, makes) =
    (step ∷ made, rest, ap (λ (l : List Step). step ∷ l) same, makes_more step made old mid new is makes)

pub ends_more : {T : Type 0} (result : Result T FileError) (step : Step) (steps : List Step) (old mid new : State) → IsDone (in_step step old.file) (after_step step old.file) old mid
    → EndsBy result steps mid new → EndsBy result (step ∷ steps) old new
ends_more (Ok value) step steps old mid new is ends = makes_more step steps old mid new is ends
ends_more (Err error) step steps old mid new is ends = stops_more error step steps old mid new is ends

-- two calls before the others
stops_after : (error : FileError) (one two : Step) (steps : List Step) (old mid new : State) → Makes (one ∷ two ∷ []) old mid → StopsBy error steps mid new
    → StopsBy error (one ∷ two ∷ steps) old new
stops_after error one two steps old mid new made stops =
    let first = record old { file = after_step one old.file; past = in_step one old.file ∷ old.file ∷ old.past } in
    stops_more error one (two ∷ steps) old first new (record { file = refl; past = refl })
    (stops_more error two steps first mid new (record { file = made.file; past = made.past }) stops)

-- an answer that is an error
pub stops_ends : {T : Type 0} (result : Result T FileError) (error : FileError) (steps : List Step) (old new : State) → result ≡ Err error → StopsBy error steps old new
    → EndsBy result steps old new
stops_ends {T = T} result error steps old new is stops = subst (λ (r : Result T FileError). EndsBy r steps old new) (sym is) stops

-- an append that stops after its first sync
pub append_stops : {T : Type 0} (result : Result T FileError) (error : FileError) (at end : ℕ) (tail : List ℕ) (old mid new : State) → result ≡ Err error → at ≡ end
    → Makes (changes (write at tail) ∷ syncs ∷ []) old mid → StopsBy error (changes (write (at - 1) (1 ∷ [])) ∷ syncs ∷ []) mid new
    → EndsBy result (append_steps end tail) old new
append_stops result error at end tail old mid new is at_is made stops =
    stops_ends result error (append_steps end tail) old new is
    (subst (λ (n : ℕ). StopsBy error (append_steps n tail) old new) at_is (stops_after error _ _ _ old mid new made stops))

-- calls that were not reached
pub stops_before : (error : FileError) (step : Step) (steps : List Step) (old new : State) → StopsBy error (step ∷ []) old new → StopsBy error (step ∷ steps) old new
stops_before Disk step steps old new (inl crashed) = inl crashed
stops_before Disk step steps old new (inr later) = absurd later.2
stops_before Memory step steps old new (made, rest, same, makes) = (made, rest ++ steps, ap (λ (l : List Step). l ++ steps) same ∙ append_assoc made rest steps, makes)

-- what a crash leaves at each moment of the calls that were made
pub ended_moments : {T : Type 0} (P : List ℕ → Type 0) (result : Result T FileError) (steps : List Step) (old new : State) → EachLeaves P steps old.file → EndsBy result steps old new
    → EachMoment P old new
ended_moments P (Ok value) steps old new leaves ends = made_moments P steps old new leaves ends
ended_moments P (Err Disk) steps old new leaves ends = broken_moments P steps old new leaves ends
ended_moments P (Err Memory) steps old new leaves ends = first_moments P steps old new leaves ends
