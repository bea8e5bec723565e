-- How the disks of a set change, event by event.
use Rattle.std.proofs.Common.{◌≡◌, ◌∙◌, ap, sym, subst, refl, append_assoc, ℕ, Bool, true, false, List, [], ◌∷◌, ◌++◌, fold, length}
use Rattle.std.specs.Prelude.{IfOk, OnErr, OnOk, Result, Ok, Err}
use Rattle.std.proofs.lemmas.List.{append-nil}
use Rattle.std.proofs.lemmas.List.Sums.{fold-append}
use Rattle.rs_disk.specs.State.{State}
use Rattle.set_model.specs.declared.command.Command.{Command}
use Rattle.set_model.specs.declared.command.Event.{Event}
use Rattle.set_model.specs.declared.reply.Reply.{Reply}
use Rattle.set_model.specs.Limits.{is_for}
use Rattle.set_model.specs.Run.{Run, Sizes, after, opening, run}
use Rattle.set_model.specs.World.{World, step}
use Rattle.set_world.specs.declared.error.StepError.{StepError}
use Rattle.set_world.specs.World.{Set}
use Rattle.set_world.specs.Disks.{DisksStep, DisksUndone, IsStep, NothingDone}
use Rattle.set_world.specs.Went.{DisksPlay, DisksRun, AllUndone, DisksWent, WentOn}

-- an event more is played
pub play_more : {D : Type 0} (state : D → State) (so_far : Run) (events : List Event) (event : Event) (first old new : List D)
    → DisksPlay state so_far.world events first old → DisksStep state (fold after so_far events).world event old new
    → DisksPlay state so_far.world (events ++ event ∷ []) first new
play_more {D} state so_far [] event first old new played more = (new, subst (λ (ds : List D). DisksStep state so_far.world event ds new) played more, refl)
play_more state so_far (earlier ∷ events) event first old new played more =
    (played.0, played.1, play_more state (after so_far earlier) events event played.0 old new played.2 more)

-- a command more wasn't done
undone_more : {D : Type 0} (state : D → State) (world : World) (before : List Command) (command : Command) (first old new : List D)
    → AllUndone state world before first old → is_for (length world.nodes) command ≡ true → DisksUndone state world command old new
    → AllUndone state world (before ++ command ∷ []) first new
undone_more {D} state world [] command first old new same fits one =
    (new, fits, subst (λ (ds : List D). DisksUndone state world command ds new) same one, refl)
undone_more state world (earlier ∷ before) command first old new (between, for, changed, rest) fits one =
    (between, for, changed, undone_more state world before command between old new rest fits one)

-- the same after events
run_undone : {D : Type 0} (state : D → State) (so_far : Run) (events : List Event) (command : Command) (first old new : List D)
    → DisksRun state so_far.world events first old → is_for (length (fold after so_far events).world.nodes) command ≡ true
    → DisksUndone state (fold after so_far events).world command old new → DisksRun state so_far.world events first new
run_undone state so_far [] command first old new ran fits one = (ran.0 ++ command ∷ [], undone_more state so_far.world ran.0 command first old new ran.1 fits one)
run_undone state so_far (event ∷ events) command first old new (undone, before, later, used, stepped, rest) fits one =
    (undone, before, later, used, stepped, run_undone state (after so_far event) events command later old new rest fits one)

-- and an event after all
run_more : {D : Type 0} (state : D → State) (so_far : Run) (events : List Event) (event : Event) (first old new : List D)
    → DisksRun state so_far.world events first old → DisksStep state (fold after so_far events).world event old new
    → DisksRun state so_far.world (events ++ event ∷ []) first new
run_more state so_far [] event first old new ran more = (ran.0, old, new, ran.1, more, ([], refl))
run_more state so_far (earlier ∷ events) event first old new (undone, before, later, used, stepped, rest) more =
    (undone, before, later, used, stepped, run_more state (after so_far earlier) events event later old new rest more)

-- a set that is opened
pub went_first : {D : Type 0} (state : D → State) (sizes : Sizes) (history : List Event) (disks opened : List D) (kept : Bool) → history ≡ [] → opened ≡ disks
    → DisksWent state (record { sizes = sizes; history = history; disks = disks; opened = opened; whole = kept })
went_first {D} state sizes history disks opened kept none same =
    subst (λ (es : List Event). DisksWent state (record { sizes = sizes; history = es; disks = disks; opened = opened; whole = kept })) (sym none)
    (record { ran = ([], sym same); played = λ is. sym same })

-- a set goes on by a step
pub went_step : {D : Type 0} (state : D → State) (old new : Set D) (line : ℕ) (command : Command) (reply : Reply) → IsStep state old new line command reply
    → new.sizes ≡ old.sizes → new.opened ≡ old.opened → new.whole ≡ old.whole → DisksWent state old → DisksWent state new
went_step {D} state old new line command reply is sizes opened kept went = record {
  ran = on (λ world es first last. DisksRun state world es first last) (run_more state (opening old.sizes) old.history is.event old.opened old.disks new.disks went.ran changed);
  played = λ still. on (λ world es first last. DisksPlay state world es first last)
      (play_more state (opening old.sizes) old.history is.event old.opened old.disks new.disks (went.played (sym kept ∙ still)) changed);
}
  where
    changed : DisksStep state (run old.sizes old.history).world is.event old.disks new.disks
    changed = is.disks

    on : (So : World → List Event → List D → List D → Type 0) → So (opening old.sizes).world (old.history ++ is.event ∷ []) old.opened new.disks
        → So (opening new.sizes).world new.history new.opened new.disks
    on So so =
        subst (λ (es : List Event). So (opening new.sizes).world es new.opened new.disks) (sym is.history)
        (subst (λ (ds : List D). So (opening new.sizes).world (old.history ++ is.event ∷ []) ds new.disks) (sym opened)
        (subst (λ (s : Sizes). So (opening s).world (old.history ++ is.event ∷ []) old.opened new.disks) (sym sizes) so))

-- a command wasn't done
pub went_undone : {D : Type 0} (state : D → State) (old new : Set D) (command : Command) → NothingDone state old new command → is_for (length (run old.sizes old.history).world.nodes) command ≡ true
    → new.sizes ≡ old.sizes → new.opened ≡ old.opened → new.whole ≡ false → DisksWent state old → DisksWent state new
went_undone {D} state old new command is fits sizes opened broken went = record {
  ran = subst (λ (es : List Event). DisksRun state (opening new.sizes).world es new.opened new.disks) (sym is.history)
      (subst (λ (ds : List D). DisksRun state (opening new.sizes).world old.history ds new.disks) (sym opened)
      (subst (λ (s : Sizes). DisksRun state (opening s).world old.history old.opened new.disks) (sym sizes)
      (run_undone state (opening old.sizes) old.history command old.opened old.disks new.disks went.ran fits is.disks)));
  played = λ still. absurd (cc (still, broken));
}

-- ---- from a moment on

-- nothing was done yet
pub went_nowhere : {D : Type 0} (state : D → State) (set : Set D) → WentOn state set set
went_nowhere state set = record { sizes = refl; opened = refl; added = []; history = sym (append-nil set.history); ran = ([], refl); played = λ still. refl }

-- a set that went on goes on further
module _ {D : Type 0} (state : D → State) (begun old new : Set D) (so_far : WentOn state begun old) (sizes : new.sizes ≡ old.sizes) (opened : new.opened ≡ old.opened) where
  abbrev then : Run
  then = run begun.sizes begun.history

  here : (fold after then so_far.added).world ≡ (run old.sizes old.history).world
  here = sym (ap (λ (r : Run). r.world) (fold-append after (opening begun.sizes) begun.history so_far.added))
      ∙ ap (λ (es : List Event). (run begun.sizes es).world) (sym so_far.history) ∙ ap (λ (s : Sizes). (run s old.history).world) (sym so_far.sizes)

  -- by a step
  pub went_on_step : (line : ℕ) (command : Command) (reply : Reply) → IsStep state old new line command reply → new.whole ≡ old.whole → WentOn state begun new
  went_on_step line command reply is kept = record {
    sizes = sizes ∙ so_far.sizes;
    opened = opened ∙ so_far.opened;
    added = so_far.added ++ is.event ∷ [];
    history = is.history ∙ ap (λ (es : List Event). es ++ is.event ∷ []) so_far.history ∙ append_assoc begun.history so_far.added (is.event ∷ []);
    ran = run_more state then so_far.added is.event begun.disks old.disks new.disks so_far.ran changed;
    played = λ still. play_more state then so_far.added is.event begun.disks old.disks new.disks (so_far.played (sym kept ∙ still)) changed;
  }
    where
      changed : DisksStep state (fold after then so_far.added).world is.event old.disks new.disks
      changed = subst (λ (w : World). DisksStep state w is.event old.disks new.disks) (sym here) is.disks

  -- by a command that wasn't done
  pub went_on_undone : (command : Command) → NothingDone state old new command → is_for (length (run old.sizes old.history).world.nodes) command ≡ true
      → (new.whole ≡ true → (old.whole ≡ true) × (new.disks ≡ old.disks)) → WentOn state begun new
  went_on_undone command is fits unused = record {
    sizes = sizes ∙ so_far.sizes;
    opened = opened ∙ so_far.opened;
    added = so_far.added;
    history = is.history ∙ so_far.history;
    ran = run_undone state then so_far.added command begun.disks old.disks new.disks so_far.ran
        (subst (λ (w : World). is_for (length w.nodes) command ≡ true) (sym here) fits)
        (subst (λ (w : World). DisksUndone state w command old.disks new.disks) (sym here) is.disks);
    played = λ still. subst (λ (ds : List D). DisksPlay state then.world so_far.added begun.disks ds) (sym (unused still).1) (so_far.played (unused still).0);
  }

-- by a step that was answered or not
pub went_answer : {D : Type 0} (state : D → State) (begun old new : Set D) (line : ℕ) (command : Command) (answer : Result Reply StepError) → WentOn state begun old
    → IfOk answer (λ reply. IsStep state old new line command reply) → OnErr answer (NothingDone state old new command) → new.sizes ≡ old.sizes → new.opened ≡ old.opened
    → OnOk answer (new.whole ≡ old.whole) → OnErr answer (new.whole ≡ true → (old.whole ≡ true) × (new.disks ≡ old.disks))
    → is_for old.sizes.nodes command ≡ true → length (run old.sizes old.history).world.nodes ≡ old.sizes.nodes → WentOn state begun new
went_answer state begun old new line command (Ok reply) so_far step err sizes opened whole unused fits count = went_on_step state begun old new so_far sizes opened line command reply step whole
went_answer state begun old new line command (Err error) so_far step err sizes opened whole unused fits count =
    went_on_undone state begun old new so_far sizes opened command err (subst (λ (n : ℕ). is_for n command ≡ true) (sym count) fits) unused
