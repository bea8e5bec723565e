-- A talk with a set, which others may step too: each of its commands is one event.
use Rattle.std.specs.Prelude.{◌≡◌, ◌⊎◌, Bool, List, [], ◌∷◌, ◌++◌}
use mathlib.Core.Logic.{inl, inr}
use Rattle.set_model.specs.declared.command.Event.{Event}
use Rattle.set_model.specs.declared.reply.Reply.{Reply}
use Rattle.set_model.specs.Run.{Sizes}
use Rattle.set_world.specs.Stepper.{Learns, StepsOnce}
use Rattle.linear_read.specs.Talk.{Talk, tells, asks}

module _ (alone : Bool) (sizes : Sizes) where
  -- each command of the talk was done, one after the other, and this was the result
  abbrev pub IsHeld : {A : Type 0} → List Event → List Event → Talk A → A → Type 0
  IsHeld old new (tells answer) told = (new ≡ old) × (answer ≡ told)
  IsHeld old new (asks command next) told =
      (between : List Event) × (reply : Reply) × StepsOnce alone sizes old between 0 command reply
      × IsHeld between new (next reply) told

  -- the commands of a prefix of the talk were done, and no other
  abbrev pub IsBrokenOff : {A : Type 0} → List Event → List Event → Talk A → Type 0
  IsBrokenOff old new (tells answer) = ⊥
  IsBrokenOff old new (asks command next) =
      Learns alone old new
      ⊎ ((between : List Event) × (reply : Reply) × StepsOnce alone sizes old between 0 command reply
      × IsBrokenOff between new (next reply))

  -- ---- with whoever steps the set

  -- the events of a talk's commands, if it was held
  abbrev pub did : {A : Type 0} (old new : List Event) (talk : Talk A) (told : A) → IsHeld old new talk told
      → List Event
  did old new (tells answer) told held = []
  did old new (asks command next) told held =
      held.2.event ∷ did held.0 new (next held.1) told held.3

  -- the same of one that was broken off
  abbrev pub did_before : {A : Type 0} (old new : List Event) (talk : Talk A) → IsBrokenOff old new talk
      → List Event
  did_before old new (tells answer) broken = []
  did_before old new (asks command next) (inl learns) = []
  did_before old new (asks command next) (inr on) =
      on.2.event ∷ did_before on.0 new (next on.1) on.3

  -- The whole talk was held. Its own events are one for each command, in their order, and no others.
  abbrev pub Holds : {A : Type 0} → List Event → List Event → List Event → List Event → Talk A → A → Type 0
  Holds old new own own' talk told =
      (held : IsHeld old new talk told) × (own' ≡ own ++ did old new talk told held)

  -- A prefix of the talk was held, by its own events in the same way.
  abbrev pub BreaksOff : {A : Type 0} → List Event → List Event → List Event → List Event → Talk A → Type 0
  BreaksOff old new own own' talk =
      (broken : IsBrokenOff old new talk) × (own' ≡ own ++ did_before old new talk broken)
