-- What a step of a set tells its caller: no events of others come between.
use Rattle.std.proofs.Common.{◌≡◌, ◌≢◌, ◌∙◌, ◌+◌, ap, arith, drop, length, length-append, refl, sym, true, Bool, List, [], ◌∷◌, ◌++◌, ℕ}
use Rattle.std.proofs.lemmas.List.{append-nil}
use Rattle.std.specs.Prelude.{IfOk, IsErrOf, OnOk, Result, Ok, Err, slice_index_or}
use Rattle.rs_disk.specs.State.{State}
use Rattle.set_model.specs.declared.command.Command.{Command}
use Rattle.set_model.specs.declared.command.Event.{Event}
use Rattle.set_model.specs.declared.reply.Reply.{Reply}
use Rattle.set_model.specs.Run.{Sizes}
use Rattle.set_world.specs.declared.error.StepError.{StepError}
use Rattle.set_world.specs.declared.error.StepError.TheVariants.{HistoryFull, Memory}
use Rattle.set_world.specs.Disks.{IsStep}
use Rattle.set_world.specs.Stepper.{AddsOne, Learns, StepsOnce}
use Rattle.set_world.specs.World.{Set}

learns_none : (old new : List Event) → new ≡ old → Learns true old new
learns_none old new same = record { others = []; new_is = same ∙ sym (append-nil old); none = λ alone. refl }

module _ {D : Type 0} (state : D → State) (old new : Set D) where
  pub steps_alone : (line : ℕ) (command : Command) (reply : Reply) → IsStep state old new line command reply → StepsOnce true old.sizes old.history new.history line command reply
  steps_alone line command reply steps = record {
    met = old.history;
    learns = learns_none old.history old.history refl;
    event = steps.event;
    line_is = steps.line_is;
    command_is = steps.command_is;
    new_is = steps.history;
    reply_is = steps.reply_is;
  }

  pub each_steps_alone : {E : Type 0} (line : ℕ) (command : Command) (answer : Result Reply E) → IfOk answer (λ reply. IsStep state old new line command reply) → IfOk answer (λ reply. StepsOnce true old.sizes old.history new.history line command reply)
  each_steps_alone line command (Ok reply) steps = steps_alone line command reply steps
  each_steps_alone line command (Err error) steps = tt

  -- what is added to its history is its own
  pub each_adds_one : {E : Type 0} (line : ℕ) (command : Command) (answer : Result Reply E) → IfOk answer (λ reply. IsStep state old new line command reply) → IfOk answer (λ reply. AddsOne new.history old.history new.history)
  each_adds_one line command (Ok reply) steps = record { earlier = old.history; event = steps.event; known_is = steps.history; own_is = steps.history }
  each_adds_one line command (Err error) steps = tt

-- a set stays whole where memory doesn't run out
pub stays_whole : {D : Type 0} (old new : Set D) (answer : Result Reply StepError) → OnOk answer (new.whole ≡ old.whole) → (IsErrOf answer HistoryFull → new ≡ old)
    → old.whole ≡ true → answer ≢ Err Memory → new.whole ≡ true
stays_whole old new (Ok reply) same untouched was other = same ∙ was
stays_whole {D} old new (Err HistoryFull) same untouched was other = ap (λ (s : Set D). s.whole) (untouched refl) ∙ was
stays_whole old new (Err Memory) same untouched was other = absurd (other refl)

-- ---- the own event of a step

none_longer : (xs : List Event) (x : Event) → [] ≡ xs ++ x ∷ [] → ⊥
none_longer xs x same =
    let long : length (xs ++ x ∷ []) ≡ length xs + 1 = length-append xs (x ∷ []) in
    let none : 0 ≡ length (xs ++ x ∷ []) = ap length same in
    omega (arith, long, none)

last_same : (xs ys : List Event) (x y : Event) → xs ++ x ∷ [] ≡ ys ++ y ∷ [] → x ≡ y
last_same [] [] x y same = ap (λ l. slice_index_or l 0 x) same
last_same [] (z ∷ ys) x y same = absurd (none_longer ys y (ap (λ l. drop 1 l) same))
last_same (w ∷ xs) [] x y same = absurd (none_longer xs x (sym (ap (λ l. drop 1 l) same)))
last_same (w ∷ xs) (z ∷ ys) x y same = last_same xs ys x y (ap (λ l. drop 1 l) same)

-- it is the one that the step is of
pub own_event : (alone : Bool) (sizes : Sizes) (old new own own' : List Event) (line : ℕ) (command : Command) (reply : Reply) (steps : StepsOnce alone sizes old new line command reply)
    → AddsOne new own own' → own' ≡ own ++ steps.event ∷ []
own_event alone sizes old new own own' line command reply steps adds =
    adds.own_is ∙ ap (λ e. own ++ e ∷ []) (last_same adds.earlier steps.met adds.event steps.event (sym adds.known_is ∙ steps.new_is))
