-- How a set changes by what is tried on it.
use Rattle.std.proofs.Common.{◌≡◌, ◌∙◌, ap, sym, subst, refl, append_assoc, append-nil, ℕ, true, List, [], ◌∷◌, ◌++◌, drop, fold, length}
use Rattle.std.specs.Prelude.{IfOk, OnErr, Result, Ok, Err}
use Rattle.std.proofs.lemmas.List.Sums.{fold-append}
use Rattle.rs_disk.specs.State.{State}
use Rattle.set_model.specs.declared.command.Command.{Command}
use Rattle.set_model.specs.declared.command.Event.{Event}
use Rattle.set_model.specs.declared.reply.Reply.{Reply}
use Rattle.set_model.specs.Limits.{is_for}
use Rattle.set_model.specs.Run.{Run, Sizes, after, opening, run}
use Rattle.set_model.specs.World.{World, step}
use Rattle.set_world.specs.declared.error.StepError.{StepError}
use Rattle.set_world.specs.Disks.{DisksStep, DisksUndone, IsStep, NothingDone}
use Rattle.set_world.specs.World.{Set}
use Rattle.shared_set.specs.declared.attempt.Attempt.{Attempt}
use Rattle.shared_set.specs.declared.attempt.Attempt.TheVariants.{Done, Undone}
use Rattle.shared_set.specs.Attempts.{AttemptsLeave, WentBy, came_to, done_in}
use Rattle.shared_set.proofs.HeardLemmas.{done_append}

pub tried_nothing : {D : Type 0} (state : D → State) (set : Set D) → WentBy state set set []
tried_nothing state set = record { sizes = refl; history = sym (append-nil set.history); disks = refl }

-- an event more
leave_done : {D : Type 0} (state : D → State) (so_far : Run) (tried : List Attempt) (event : Event) (first old new : List D) → AttemptsLeave state so_far.world tried first old
    → DisksStep state (fold after so_far (done_in tried)).world event old new → AttemptsLeave state so_far.world (tried ++ Done event ∷ []) first new
leave_done {D} state so_far [] event first old new same one = (new, subst (λ (ds : List D). DisksStep state so_far.world event ds new) same one, refl)
leave_done state so_far (Done earlier ∷ tried) event first old new (between, used, rest) one = (between, used, leave_done state (after so_far earlier) tried event between old new rest one)
leave_done state so_far (Undone line command ∷ tried) event first old new (between, fits, used, rest) one = (between, fits, used, leave_done state so_far tried event between old new rest one)

-- a command more that wasn't done
leave_undone : {D : Type 0} (state : D → State) (so_far : Run) (tried : List Attempt) (line : ℕ) (command : Command) (first old new : List D) → AttemptsLeave state so_far.world tried first old
    → is_for (length (fold after so_far (done_in tried)).world.nodes) command ≡ true → DisksUndone state (fold after so_far (done_in tried)).world command old new
    → AttemptsLeave state so_far.world (tried ++ Undone line command ∷ []) first new
leave_undone {D} state so_far [] line command first old new same fits one = (new, fits, subst (λ (ds : List D). DisksUndone state so_far.world command ds new) same one, refl)
leave_undone state so_far (Done earlier ∷ tried) line command first old new (between, used, rest) fits one = (between, used, leave_undone state (after so_far earlier) tried line command between old new rest fits one)
leave_undone state so_far (Undone l c ∷ tried) line command first old new (between, fit, used, rest) fits one = (between, fit, used, leave_undone state so_far tried line command between old new rest fits one)

module _ {D : Type 0} (state : D → State) (begun old new : Set D) (tried : List Attempt) (so_far : WentBy state begun old tried) (sizes : new.sizes ≡ old.sizes) where
  here : (fold after (run begun.sizes begun.history) (done_in tried)).world ≡ (run old.sizes old.history).world
  here = sym (ap (λ (r : Run). r.world) (fold-append after (opening begun.sizes) begun.history (done_in tried)))
      ∙ ap (λ (es : List Event). (run begun.sizes es).world) (sym so_far.history) ∙ ap (λ (s : Sizes). (run s old.history).world) (sym so_far.sizes)

  by_step : (line : ℕ) (command : Command) (reply : Reply) → (is : IsStep state old new line command reply) → WentBy state begun new (tried ++ Done is.event ∷ [])
  by_step line command reply is = record {
    sizes = sizes ∙ so_far.sizes;
    history = is.history ∙ ap (λ (es : List Event). es ++ is.event ∷ []) so_far.history ∙ append_assoc begun.history (done_in tried) (is.event ∷ [])
        ∙ ap (λ (es : List Event). begun.history ++ es) (sym (done_append tried (Done is.event ∷ [])));
    disks = leave_done state (run begun.sizes begun.history) tried is.event begun.disks old.disks new.disks so_far.disks
        (subst (λ (w : World). DisksStep state w is.event old.disks new.disks) (sym here) is.disks);
  }

  by_none : (line : ℕ) (command : Command) → NothingDone state old new command → is_for (length (run old.sizes old.history).world.nodes) command ≡ true → WentBy state begun new (tried ++ Undone line command ∷ [])
  by_none line command is fits = record {
    sizes = sizes ∙ so_far.sizes;
    history = is.history ∙ so_far.history ∙ ap (λ (es : List Event). begun.history ++ es) (sym (done_append tried (Undone line command ∷ []) ∙ append-nil (done_in tried)));
    disks = leave_undone state (run begun.sizes begun.history) tried line command begun.disks old.disks new.disks so_far.disks
        (subst (λ (w : World). is_for (length w.nodes) command ≡ true) (sym here) fits)
        (subst (λ (w : World). DisksUndone state w command old.disks new.disks) (sym here) is.disks);
  }

-- what was added comes after these
pub drop_first : {A : Type 0} (xs ys : List A) → drop (length xs) (xs ++ ys) ≡ ys
drop_first [] ys = refl
drop_first (x ∷ xs) ys = drop_first xs ys

-- by a step, whatever it was answered
pub tried_more : {D : Type 0} (state : D → State) (begun old new : Set D) (tried later : List Attempt) (line : ℕ) (command : Command) (answer : Result Reply StepError) → WentBy state begun old tried
    → IfOk answer (λ reply. IsStep state old new line command reply) → OnErr answer (NothingDone state old new command) → new.sizes ≡ old.sizes
    → is_for old.sizes.nodes command ≡ true → length (run old.sizes old.history).world.nodes ≡ old.sizes.nodes
    → later ≡ tried ++ came_to (drop (length old.history) new.history) line command ∷ [] → WentBy state begun new later
tried_more state begun old new tried later line command (Ok reply) so_far is err sizes fits count grown =
    subst (λ (l : List Attempt). WentBy state begun new l)
    (sym (grown ∙ ap (λ (es : List Event). tried ++ came_to es line command ∷ []) (ap (λ (es : List Event). drop (length old.history) es) is.history ∙ drop_first old.history (is.event ∷ []))))
    (by_step state begun old new tried so_far sizes line command reply is)
tried_more state begun old new tried later line command (Err error) so_far step is sizes fits count grown =
    subst (λ (l : List Attempt). WentBy state begun new l)
    (sym (grown ∙ ap (λ (es : List Event). tried ++ came_to es line command ∷ []) (ap (λ (es : List Event). drop (length old.history) es) (is.history ∙ sym (append-nil old.history)) ∙ drop_first old.history [])))
    (by_none state begun old new tried so_far sizes line command is (subst (λ (n : ℕ). is_for n command ≡ true) (sym count) fits))
