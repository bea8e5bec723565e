-- What a call shows of the events that a pass has seen.
use Rattle.std.proofs.Common.{◌≡◌, ◌∙◌, ap, drop, length, sym, subst, ℕ, false, List, [], ◌∷◌, ◌++◌, append_assoc}
use Rattle.std.specs.Prelude.{Result, Ok, Err, IfOk, IsErrOf, OnErr}
use mathlib.Core.List.{IsPrefix}
use Rattle.set_model.specs.declared.command.Command.{Command}
use Rattle.set_model.specs.declared.command.Event.{Event}
use Rattle.set_model.specs.declared.reply.Reply.{Reply}
use Rattle.set_model.specs.Run.{Sizes}
use Rattle.set_world.specs.declared.error.StepError.{StepError}
use Rattle.set_world.specs.declared.error.StepError.TheVariants.{HistoryFull}
use Rattle.set_world.specs.Stepper.{AddsOne, Learns, StepsOnce}
use Rattle.turn_board.specs.declared.view.View.{View}
use Rattle.turn_board.specs.History.{events, names}
use Rattle.turn_board.specs.Views.{seen}
use Rattle.turn_board.proofs.Sums.{events_append}
use Rattle.shared_set.specs.Calls.{Keeps, Steps, Waits, own_calls, reply_in}

module _ {F : Type 0} (sizes : Sizes) (v w : View Event F) where
  -- what was seen later goes on what was seen
  learns_of : (turns : List (ℕ × Event)) → IsPrefix v.turns turns → Learns false (seen v) (v.begun ++ events turns)
  learns_of turns begins = record {
    others = events begins.0;
    new_is = ap (λ l. v.begun ++ l) (ap events (sym begins.1) ∙ events_append v.turns begins.0) ∙ sym (append_assoc v.begun (events v.turns) (events begins.0));
    none = λ alone. absurd (cc alone);
  }

  learns : Waits sizes v w → Learns false (seen v) (seen w)
  learns waits = subst (λ l. Learns false (seen v) l) (sym (ap (λ (u : View Event F). seen u) waits.now)) (learns_of waits.turns waits.meets.begins)

  steps_once : (line : ℕ) (command : Command) (place : ℕ) (answer : Reply) → Steps sizes v w line command place answer → StepsOnce false sizes (seen v) (seen w) line command answer
  steps_once line command place answer steps = record {
    met = v.begun ++ events steps.turns;
    learns = learns_of steps.turns steps.meets.begins;
    event = steps.event;
    line_is = steps.line_is;
    command_is = steps.command_is;
    new_is = ap (λ (u : View Event F). seen u) steps.now
        ∙ ap (λ l. v.begun ++ l) (events_append steps.turns ((steps.pass, steps.event) ∷ [])) ∙ sym (append_assoc v.begun (events steps.turns) (steps.event ∷ []));
    reply_is = steps.reply_is;
  }

  -- ---- its own events

  adds_one : (line : ℕ) (command : Command) (place : ℕ) (answer : Reply) → Steps sizes v w line command place answer → AddsOne (seen w) (own_calls v.calls) (own_calls w.calls)
  adds_one line command place answer steps = record {
    earlier = v.begun ++ events steps.turns;
    event = steps.event;
    known_is = ap (λ (u : View Event F). seen u) steps.now
        ∙ ap (λ l. v.begun ++ l) (events_append steps.turns ((steps.pass, steps.event) ∷ [])) ∙ sym (append_assoc v.begun (events steps.turns) (steps.event ∷ []));
    own_is = ap (λ (u : View Event F). own_calls u.calls) steps.now ∙ ap (λ (cs : List (ℕ × List Event)). own_calls cs ++ steps.event ∷ []) (sym steps.calls);
  }

  same_own : Waits sizes v w → own_calls w.calls ≡ own_calls v.calls
  same_own waits = ap (λ (u : View Event F). own_calls u.calls) waits.now

  -- ---- and what stays of its pass

  keeps_stepped : (line : ℕ) (command : Command) (place : ℕ) (answer : Reply) → Steps sizes v w line command place answer → Keeps v w
  keeps_stepped line command place answer steps = record {
    parts = ap (λ (u : View Event F). u.parts) steps.now;
    numbers = ap (λ (u : View Event F). names u.calls) steps.now ∙ ap (λ (cs : List (ℕ × List Event)). names cs) (sym steps.calls);
    others = ap (λ (u : View Event F). drop 1 u.calls) steps.now ∙ ap (λ (cs : List (ℕ × List Event)). drop 1 cs) (sym steps.calls);
    begins = (
      steps.meets.begins.0 ++ (steps.pass, steps.event) ∷ [],
      sym (append_assoc v.turns steps.meets.begins.0 ((steps.pass, steps.event) ∷ [])) ∙ ap (λ (l : List (ℕ × Event)). l ++ (steps.pass, steps.event) ∷ []) steps.meets.begins.1
          ∙ ap (λ (u : View Event F). u.turns) (sym steps.now),
    );
    answers = ap (λ (u : View Event F). u.answers) steps.now;
  }

  keeps_waited : Waits sizes v w → Keeps v w
  keeps_waited waits = record {
    parts = ap (λ (u : View Event F). u.parts) waits.now;
    numbers = ap (λ (u : View Event F). names u.calls) waits.now;
    others = ap (λ (u : View Event F). drop 1 u.calls) waits.now;
    begins = (waits.meets.begins.0, waits.meets.begins.1 ∙ ap (λ (u : View Event F). u.turns) (sym waits.now));
    answers = ap (λ (u : View Event F). u.answers) waits.now;
  }

  -- ---- the answer of a step

  module _ (line : ℕ) (command : Command) where
    abbrev IsStepped : Result (ℕ × Reply) StepError → Type 0
    IsStepped answer = IfOk answer (λ done. Steps sizes v w line command done.0 done.1)

    pub each_steps_once : (answer : Result (ℕ × Reply) StepError) → IsStepped answer → IfOk (reply_in answer) (λ reply. StepsOnce false sizes (seen v) (seen w) line command reply)
    each_steps_once (Ok done) steps = steps_once line command done.0 done.1 steps
    each_steps_once (Err error) steps = tt

    pub each_adds_one : (answer : Result (ℕ × Reply) StepError) → IsStepped answer → IfOk (reply_in answer) (λ reply. AddsOne (seen w) (own_calls v.calls) (own_calls w.calls))
    each_adds_one (Ok done) steps = adds_one line command done.0 done.1 steps
    each_adds_one (Err error) steps = tt

    pub each_keeps : (answer : Result (ℕ × Reply) StepError) → IsStepped answer → OnErr answer (Waits sizes v w) → Keeps v w
    each_keeps (Ok done) steps waits = keeps_stepped line command done.0 done.1 steps
    each_keeps (Err error) steps waits = keeps_waited waits

  pub each_learns : (answer : Result (ℕ × Reply) StepError) → OnErr answer (Waits sizes v w) → OnErr (reply_in answer) (Learns false (seen v) (seen w))
  each_learns (Ok done) waits = tt
  each_learns (Err error) waits = learns waits

  pub each_idles : (answer : Result (ℕ × Reply) StepError) → OnErr answer (Waits sizes v w) → OnErr (reply_in answer) (own_calls w.calls ≡ own_calls v.calls)
  each_idles (Ok done) waits = tt
  each_idles (Err error) waits = same_own waits

  pub each_full : (answer : Result (ℕ × Reply) StepError) → (IsErrOf answer HistoryFull → length (seen w) ≡ 4294967295) → IsErrOf (reply_in answer) HistoryFull → length (seen w) ≡ 4294967295
  each_full (Ok done) full is = absurd (cc is)
  each_full (Err error) full is = let same : error ≡ HistoryFull = cc is in full (ap Err same)
