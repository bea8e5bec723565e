-- What holds of worlds that are alike, and of messages that are dead, as long as no store fails.
use Rattle.std.specs.Prelude.{◌≡◌, ℕ, true, false, List, ◌++◌, None, All}
use Rattle.repl_msg.specs.declared.message.Message.{Message}
use Rattle.set_model.specs.declared.command.Event.{Event}
use Rattle.set_model.specs.Run.{Sizes, world_at}
use Rattle.set_model.specs.World.{World, is_delivery, step, takes, task}
use Rattle.safety_laws.specs.Quiet.{Stays}
use Rattle.explore_laws.specs.Alike.{AlikeReplies, AlikeWorlds}
use Rattle.explore_laws.specs.Dead.{has_dead, is_dead_in, is_untaken}
use Rattle.explore_laws.specs.Settled.{AreSettled}

-- ---- worlds that are alike

-- One event in two worlds: the same command, or the same message is delivered, whatever its number.
pub record AreSame (one two : World) (first second : Event) : Type 0 where
  pub task : task one first.command ≡ task two second.command
  pub command : is_delivery first.command ≡ false → first.command ≡ second.command
  pub first_whole : first.failed ≡ None
  pub second_whole : second.failed ≡ None

-- what it comes to in both: the same is told but for numbers of messages, and the same is sent
pub record GoOnAlike (one two : World) (first second : Event) : Type 0 where
  pub replies : AlikeReplies (step one first).reply (step two second).reply
  pub worlds : AlikeWorlds (step one first).world (step two second).world
  pub sent : List Message
  pub first_sent : (step one first).world.messages ≡ one.messages ++ sent
  pub second_sent : (step two second).world.messages ≡ two.messages ++ sent

-- Alike worlds stay alike under one event.
abbrev pub AlikeWorldsStayAlike : Type 0
AlikeWorldsStayAlike =
    (one two : World) (first second : Event) → AreSettled one → AlikeWorlds one two
    → AreSame one two first second → GoOnAlike one two first second

-- Where the second has a dead message if the first has one, so it is after the event.
abbrev pub DeadMessagesComeInBoth : Type 0
DeadMessagesComeInBoth =
    (one two : World) (first second : Event) → AreSettled one → AlikeWorlds one two
    → AreSame one two first second → (has_dead one ≡ true → has_dead two ≡ true)
    → has_dead (step one first).world ≡ true → has_dead (step two second).world ≡ true

-- ---- messages that are dead

-- A dead message stays dead.
abbrev pub DeadMessagesStayDead : Type 0
DeadMessagesStayDead =
    (world : World) (event : Event) (message : Message) → AreSettled world → event.failed ≡ None
    → is_dead_in world message ≡ true → is_dead_in (step world event).world message ≡ true

-- The delivery of a dead message leaves the world as it was, whatever the reply.
abbrev pub DeadMessagesChangeNothing : Type 0
DeadMessagesChangeNothing =
    (world : World) (event : Event) (message : Message) → task world event.command ≡ takes message
    → is_dead_in world message ≡ true → Stays world event

-- It is refused or ignored, or it tells that a vote wasn't given.
abbrev pub DeadMessagesAreUntaken : Type 0
DeadMessagesAreUntaken =
    (world : World) (event : Event) (message : Message) → task world event.command ≡ takes message
    → is_dead_in world message ≡ true → is_untaken (step world event).reply ≡ true

-- ---- nodes that are settled

-- An event in which no store fails leaves nothing in doubt.
abbrev pub NodesStaySettled : Type 0
NodesStaySettled =
    (world : World) (event : Event) → event.failed ≡ None → AreSettled world
    → AreSettled (step world event).world

-- So nothing is in doubt in a run without a store that fails.
abbrev pub NodesAreSettled : Type 0
NodesAreSettled =
    (sizes : Sizes) (events : List Event) (place : ℕ) → All (λ event. event.failed ≡ None) events
    → AreSettled (world_at sizes events place)
