-- The nodes that a call asked, as they were.
use Rattle.std.proofs.Common.{◌≡◌, ◌∙◌, ap, sym, refl, Bool, true, false, ℕ, Option, None, Some, List, slice_get, if◌then◌else◌}
use Rattle.std.proofs.lemmas.Option.{same_Some}
use Rattle.std.specs.Prelude.{option_and_then}
use Rattle.set_model.specs.declared.command.Command.TheVariants as commands
use Rattle.set_model.specs.declared.command.Event.{Event}
use Rattle.set_model.specs.declared.reply.Refusal.{Refusal}
use Rattle.set_model.specs.declared.reply.Refusal.TheVariants.{NodeDown, NoSuchMessage}
use Rattle.set_model.specs.declared.reply.Reply.{Reply}
use Rattle.set_model.specs.declared.reply.Reply.TheVariants as reply
use Rattle.set_model.specs.Node.{Node}
use Rattle.set_model.specs.Outcome.{refused, replied}
use Rattle.set_model.specs.Reads.{state_of}
use Rattle.set_model.specs.Run.{Sizes, world_at}
use Rattle.set_model.specs.Safety.{IsAt}
use Rattle.set_model.specs.Stores.{Plan}
use Rattle.set_model.specs.World.{World, by_plan, plan_of, step, task}
use Rattle.change_stream.specs.Calls.{Call}
use Rattle.change_stream.specs.Shown.{Shows, shown_state}

-- ---- a command that shows something of a node

-- the reply to a command at a node that is up, or the refusal
abbrev pub told_at : (Node → Reply) → Option Node → Reply
told_at shown None = reply.Refused NoSuchMessage
told_at shown (Some node) = if node.up then shown node else reply.Refused NodeDown

pub by_up : (world : World) (event : Event) (node : Node) (answer : Reply) (up : Bool)
    → (by_plan world event (Some (if up then Plan.finished (replied answer node) else Plan.finished (refused NodeDown node)))).reply ≡ (if up then answer else reply.Refused NodeDown)
by_up world event node answer true = refl
by_up world event node answer false = refl

pub state_told : (world : World) (event : Event) (number : ℕ) → event.command ≡ commands.State number → (step world event).reply ≡ told_at state_of (slice_get world.nodes number)
state_told world event number is = ap (λ c. (step world (record event { command = c })).reply) is ∙ go (slice_get world.nodes number)
  where
    asks : Event
    asks = record event { command = commands.State number }

    go : (found : Option Node) → (by_plan world asks (option_and_then (plan_of world asks (task world (commands.State number))) found)).reply ≡ told_at state_of found
    go None = refl
    go (Some node) = by_up world asks node (state_of node) node.up

pub log_told : (world : World) (event : Event) (number : ℕ) → event.command ≡ commands.Log number → (step world event).reply ≡ told_at (λ node. reply.Entries node.log) (slice_get world.nodes number)
log_told world event number is = ap (λ c. (step world (record event { command = c })).reply) is ∙ go (slice_get world.nodes number)
  where
    asks : Event
    asks = record event { command = commands.Log number }

    go : (found : Option Node) → (by_plan world asks (option_and_then (plan_of world asks (task world (commands.Log number))) found)).reply ≡ told_at (λ node. reply.Entries node.log) found
    go None = refl
    go (Some node) = by_up world asks node (reply.Entries node.log) node.up

-- ---- what the replies tell of the node

-- a node that is up, with this of it
pub record IsUpWith (found : Option Node) (P : Node → Type 0) : Type 0 where
  pub node : Node
  pub there : found ≡ Some node
  pub up : node.up ≡ true
  pub has : P node

up_with : (shown : Node → Reply) (answer : Reply) (P : Node → Type 0) → ((why : Refusal) → reply.Refused why ≡ answer → ⊥) → ((node : Node) → shown node ≡ answer → P node)
    → (found : Option Node) → told_at shown found ≡ answer → IsUpWith found P
up_with shown answer P unless has None told = absurd (unless NoSuchMessage told)
up_with shown answer P unless has (Some node) told = go node.up refl told
  where
    go : (up : Bool) → node.up ≡ up → (if up then shown node else reply.Refused NodeDown) ≡ answer → IsUpWith (Some node) P
    go true is told_too = record { node = node; there = refl; up = is; has = has node told_too }
    go false is told_too = absurd (unless NodeDown told_too)

module _ (sizes : Sizes) (events : List Event) (call : Call) (shows : Shows sizes events call) where
  abbrev StateIs : Node → Type 0
  StateIs node = (node.term ≡ call.term) × (node.commit ≡ call.commit)

  asked : IsUpWith (slice_get (world_at sizes events shows.first).nodes call.node) StateIs
  asked = up_with state_of shows.state StateIs unless parts (slice_get (world_at sizes events shows.first).nodes call.node)
      (sym (state_told (world_at sizes events shows.first) shows.asked.event call.node shows.asked.command_is) ∙ shows.asked.reply_is)
    where
      unless : (why : Refusal) → reply.Refused why ≡ shows.state → ⊥
      unless why is = let none : None ≡ Some (call.term, call.commit) = ap shown_state is ∙ shows.state_is in absurd (cc none)

      parts : (node : Node) → state_of node ≡ shows.state → StateIs node
      parts node is =
          let same : (node.term, node.commit) ≡ (call.term, call.commit) = same_Some _ _ (ap shown_state is ∙ shows.state_is) in
          (ap (λ p. p.0) same, ap (λ p. p.1) same)

  read : IsUpWith (slice_get (world_at sizes events shows.second).nodes call.node) (λ node. node.log ≡ call.log)
  read = up_with (λ node. reply.Entries node.log) (reply.Entries call.log) (λ node. node.log ≡ call.log) (λ why is. cc is) (λ node is. cc is) (slice_get (world_at sizes events shows.second).nodes call.node)
      (sym (log_told (world_at sizes events shows.second) shows.read.event call.node shows.read.command_is) ∙ shows.read.reply_is)

  -- the node as it showed its state, and as it showed its log
  pub before : Node
  before = asked.node

  pub before_at : IsAt sizes events shows.first call.node before
  unfolding before
  before_at = record { there = asked.there; up = asked.up }

  pub before_term : before.term ≡ call.term
  unfolding before
  before_term = asked.has.0

  pub before_commit : before.commit ≡ call.commit
  unfolding before
  before_commit = asked.has.1

  pub later : Node
  later = read.node

  pub later_at : IsAt sizes events shows.second call.node later
  unfolding later
  later_at = record { there = read.there; up = read.up }

  pub later_log : later.log ≡ call.log
  unfolding later
  later_log = read.has
