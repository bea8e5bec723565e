-- What a linear read, asked for by words, asks the set, and what it puts.
use Rattle.std.specs.Prelude.{◌≡◌, ◌⊎◌, ◌≤◌, ◌<◌, ℕ, Bool, true, false, List, length, take, Option, Result, Ok, Err}
use Rattle.std.specs.Io.KnownBytes.{Appends, Keeps}
use Rattle.set_model.specs.declared.command.Event.{Event}
use Rattle.set_model.specs.Run.{Sizes}
use Rattle.linear_read.specs.declared.answer.LinearAnswer.{LinearAnswer}
use Rattle.linear_read.specs.declared.answer.LinearAnswer.TheVariants as answers
use Rattle.linear_read.specs.Asking.{IsBrokenOff, IsHeld}
use Rattle.linear_read.specs.Linear.{IsShown}
use Rattle.linear_read.specs.Points.{linear as points}
use Rattle.linear_words.specs.declared.asked.Linear.{Linear}
use Rattle.linear_words.specs.declared.told.LinearTold.{LinearTold}
use Rattle.linear_words.specs.declared.told.LinearTold.TheVariants.{Found, Missing, Refused as IsRefused, NoSuchNode}
use Rattle.linear_words.specs.Texts.{is_refusal, told_text}
use Rattle.linear_tell.specs.declared.stop.LinearStop.{LinearStop}
use Rattle.linear_tell.specs.declared.stop.LinearStop.TheVariants.{Refused, WriteFault, Memory}

abbrev pub told_of : LinearAnswer → LinearTold
told_of (answers.Found o) = Found o
told_of answers.Missing = Missing
told_of (answers.Refused why) = IsRefused why

-- all of a text is put, or a prefix of it if the sink fails; nothing if memory runs out
abbrev pub PutsText : Option (List ℕ) → Option (List ℕ) → List ℕ → Result (Unit {0}) LinearStop → Type 0
PutsText held now text (Ok done) = Appends held now text
PutsText held now text (Err Refused) = ⊥
PutsText held now text (Err WriteFault) = (count : ℕ) × Appends held now (take count text)
PutsText held now text (Err Memory) = Keeps held now

module _ (alone : Bool) (sizes : Sizes) (linear : Linear) (old new : List Event) where
  -- the set has the node, the five points get this answer, and it is that of a linear read in this call
  abbrev pub Answers : LinearAnswer → Type 0
  Answers answer =
      (linear.node < sizes.nodes)
      × IsHeld alone sizes old new (points linear.node sizes.nodes linear.collection linear.id) answer
      × IsShown sizes new (length old) linear.node linear.collection linear.id answer

  -- The result of the read. A set that doesn't have the node is asked nothing.
  abbrev pub Comes : LinearTold → Type 0
  Comes (Found o) = Answers (answers.Found o)
  Comes Missing = Answers answers.Missing
  Comes (IsRefused why) = Answers (answers.Refused why)
  Comes NoSuchNode = (sizes.nodes ≤ linear.node) × (new ≡ old)

  -- the commands of a prefix of the five points were done, and no other
  abbrev pub Breaks : Type 0
  Breaks =
      (linear.node < sizes.nodes)
      × IsBrokenOff alone sizes old new (points linear.node sizes.nodes linear.collection linear.id)

  -- The line of the read's result is put. If the sink fails, a prefix of it is; if memory runs out, nothing
  -- is, and the read may be broken off.
  abbrev pub Tells : Option (List ℕ) → Option (List ℕ) → Result (Unit {0}) LinearStop → Type 0
  Tells held now (Ok done) =
      (told : LinearTold) × Comes told × (is_refusal told ≡ false) × Appends held now (told_text told)
  Tells held now (Err Refused) =
      (told : LinearTold) × Comes told × (is_refusal told ≡ true) × Appends held now (told_text told)
  Tells held now (Err WriteFault) =
      (told : LinearTold) × Comes told × ((count : ℕ) × Appends held now (take count (told_text told)))
  Tells held now (Err Memory) = Keeps held now × (Breaks ⊎ ((told : LinearTold) × Comes told))
