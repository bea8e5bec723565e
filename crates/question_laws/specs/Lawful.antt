-- What each question owes that was read from a text.
use Rattle.std.specs.Prelude.{◌≡◌, ℕ, true, false, ◌&&◌, List, IfSome, ⊤}
use Rattle.rs_optime.specs.Membership.{In}
use Rattle.set_model.specs.declared.command.Command.{Command}
use Rattle.set_model.specs.Limits.{IsSoundWrite, is_for, write_of}
use Rattle.set_model.specs.World.{is_delivery}
pub use Rattle.explore_words.specs.Fits.{is_numbered, may_name}
use Rattle.explore_words.specs.Texts.{is_idle, names_message}
use Rattle.explore_words.specs.declared.question.Act.{Act}
use Rattle.explore_words.specs.declared.question.Question.{Question}
use Rattle.explore_words.specs.declared.question.Want.{Want}
use Rattle.explore_words.specs.declared.question.Want.TheVariants.{Event as Happens, Seen}
use Rattle.explore_words.specs.declared.question.WantedEvent.{WantedEvent}
use Rattle.explore_words.specs.declared.question.WantedEvent.TheVariants as wanted

-- a text names no message where the reply may name one, and that of a delivery isn't one of what isn't taken
abbrev pub MayHave : WantedEvent → List ℕ → Type 0
MayHave (wanted.Delivery route) text = (names_message true text ≡ false) × (is_idle text ≡ false)
MayHave (wanted.Heartbeat route) text = names_message true text ≡ false
MayHave (wanted.Report route) text = names_message true text ≡ false
MayHave (wanted.Common route) text = names_message true text ≡ false
MayHave (wanted.Command number asked) text =
    (is_delivery asked ≡ false) × ((may_name asked && names_message true text) ≡ false)

abbrev pub IsLawfulWant : Want → Type 0
IsLawfulWant (Happens event text) = MayHave event text
IsLawfulWant (Seen looks) = ⊤

abbrev pub AreLawful : List Want → Type 0
AreLawful wants = (want : Want) → In want wants → IsLawfulWant want

-- no line of an act delivers a message by its number
abbrev pub HasNoNumber : List Command → Type 0
HasNoNumber lines = (command : Command) → In command lines → is_numbered command ≡ false

pub record IsLawful (question : Question) : Type 0 where
  pub acts : (act : Act) → In act question.acts → HasNoNumber act.commands
  pub wants : AreLawful question.wants

-- ---- commands of the set

abbrev pub AreFor : ℕ → List Command → Type 0
AreFor nodes lines =
    (command : Command) → In command lines
    → (is_for nodes command ≡ true) × IfSome (write_of command) IsSoundWrite

-- each command is one of the set, and its documents are sound
pub record HasCommands (question : Question) : Type 0 where
  pub beginning : AreFor question.sizes.nodes question.beginning
  pub acts : (act : Act) → In act question.acts → AreFor question.sizes.nodes act.commands
