-- What a talk leaves of its set, by what the stepper of the set tells.
use Rattle.std.specs.Prelude.{◌≡◌, ◌≢◌, Bool, List, Result, Ok, Err, length}
use Rattle.set_model.specs.declared.command.Event.{Event}
use Rattle.set_model.specs.Run.{HISTORY_LIMIT, Sizes}
use Rattle.set_world.specs.declared.error.StepError.{StepError}
use Rattle.set_world.specs.declared.error.StepError.TheVariants.{Memory, HistoryFull}
use Rattle.set_world.specs.Stepper.{IsDefined}
use Rattle.linear_read.specs.Asking.{BreaksOff, Holds}
use Rattle.linear_read.specs.Talk.{Talk}

-- What led to the old set leads to the new one too, even where no step was done.
pub record Leads {S : Type 0} (sizes : S → Sizes) (known : S → List Event) (stays : S → S → Type 0)
    (old new : S) : Type 0 where
  pub sizes_are : sizes new ≡ sizes old
  pub stays_so : (first : S) → stays first old → stays first new
  pub defined : IsDefined (sizes old) (known old) → IsDefined (sizes new) (known new)

-- the whole talk was held, and this was its result
pub record Held {S A : Type 0} (alone : Bool) (sizes : S → Sizes) (known own : S → List Event)
    (stays : S → S → Type 0) (is_whole : S → Type 0) (old new : S) (talk : Talk A) (told : A) : Type 0 where
  pub leads : Leads sizes known stays old new
  pub held : Holds alone (sizes old) (known old) (known new) (own old) (own new) talk told
  pub whole : is_whole old → is_whole new

-- a prefix of it was held
pub record Broken {S A : Type 0} (alone : Bool) (sizes : S → Sizes) (known own : S → List Event)
    (stays : S → S → Type 0) (is_whole : S → Type 0) (old new : S) (talk : Talk A)
    (error : StepError) : Type 0 where
  pub leads : Leads sizes known stays old new
  pub broken : BreaksOff alone (sizes old) (known old) (known new) (own old) (own new) talk
  pub full : error ≡ HistoryFull → length (known new) ≡ HISTORY_LIMIT
  pub whole : error ≢ Memory → is_whole old → is_whole new

abbrev pub Went : {S A : Type 0} → Bool → (S → Sizes) → (S → List Event) → (S → List Event)
    → (S → S → Type 0) → (S → Type 0) → S → S → Talk A → Result A StepError → Type 0
Went alone sizes known own stays is_whole old new talk (Ok told) =
    Held alone sizes known own stays is_whole old new talk told
Went alone sizes known own stays is_whole old new talk (Err error) =
    Broken alone sizes known own stays is_whole old new talk error
