-- What a command or a message comes to at two nodes that are alike. No store fails.
use Rattle.std.specs.Prelude.{◌≡◌, ◌⊎◌, ◌<◌, ℕ, Bool, true, false, None}
use Rattle.repl_msg.specs.declared.message.Message.{Message}
use Rattle.set_model.specs.declared.command.Command.{Command}
use Rattle.set_model.specs.declared.role.Role.{Role}
use Rattle.set_model.specs.Deliver.{deliver}
use Rattle.set_model.specs.Node.{Node}
use Rattle.set_model.specs.Outcome.{Outcome}
use Rattle.set_model.specs.Roles.{is_secondary, is_candidate}
use Rattle.set_model.specs.Rows.{row}
use Rattle.set_model.specs.Stores.{Plan, done}
use Rattle.explore_laws.specs.Alike.{AlikeNodes, AlikeReplies}
use Rattle.explore_laws.specs.Dead.{term_of}
use Rattle.explore_laws.specs.Settled.{IsSettled}

-- a secondary stays one, and nobody gets to be a candidate
pub record RoleStays (old new : Role) : Type 0 where
  pub secondary : is_secondary old ≡ true → is_secondary new ≡ true
  pub candidate : is_candidate old ≡ false → is_candidate new ≡ false

-- from a term and a role to another: another role comes with a higher term
abbrev pub RisesFrom : ℕ → Role → ℕ → Role → Type 0
RisesFrom term role later new = (term < later) ⊎ ((term ≡ later) × RoleStays role new)

abbrev pub Rises : Node → Node → Type 0
Rises old new = RisesFrom (term_of old) old.role (term_of new) new.role

-- Two alike nodes after the same step: they are alike again, they answer alike, and they send the same
-- messages. The term of the first has risen, or its role stays.
pub record GoAlike (start : Node) (one two : Outcome) : Type 0 where
  pub nodes : AlikeNodes one.node two.node
  pub replies : AlikeReplies one.reply two.reply
  pub sent : one.sent ≡ two.sent
  pub rises : Rises start one.node
  pub settled : IsSettled one.node

abbrev pub PlansGoAlike : Node → Plan → Plan → Type 0
PlansGoAlike start one two = GoAlike start (done one None) (done two None)

-- A command, whatever numbers the next messages get.
abbrev pub CommandsGoAlike : Type 0
CommandsGoAlike =
    (nodes next other : ℕ) (there found : Bool) (one two : Node) (command : Command)
    → IsSettled one → AlikeNodes one two
    → PlansGoAlike one (row nodes next there one command) (row nodes other found two command)

-- A message, whatever number its answer gets.
abbrev pub MessagesGoAlike : Type 0
MessagesGoAlike =
    (next other : ℕ) (one two : Node) (message : Message)
    → IsSettled one → AlikeNodes one two
    → PlansGoAlike one (deliver next one message) (deliver other two message)
