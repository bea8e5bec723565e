-- What the events at a node that is asked show, if no one else steps the set.
use Rattle.std.proofs.Common.{◌≡◌, ◌∙◌, ◌⊎◌, ◌<◌, inl, inr, ap, sym, subst, refl, arith, ℕ, Bool, true, false, Option, None, Some, List, [], ◌∷◌, ◌++◌, append-nil, lt-ltb, length, take, slice_get, if◌then◌else◌}
use Rattle.std.proofs.Math.Seq.{take-append_seam}
use Rattle.std.proofs.lemmas.List.Sums.{fold-append}
use Rattle.std.specs.Prelude.{option_and_then}
use Rattle.set_model.specs.declared.command.Command.{Command}
use Rattle.set_model.specs.declared.command.Command.TheVariants as commands
use Rattle.set_model.specs.declared.command.Event.{Event}
use Rattle.set_model.specs.declared.command.ReadLevel.TheVariants.{Majority}
use Rattle.set_model.specs.declared.reply.Refusal.TheVariants.{NodeDown}
use Rattle.set_model.specs.declared.reply.Reply.{Reply}
use Rattle.set_model.specs.declared.reply.Reply.TheVariants as reply
use Rattle.set_model.specs.Limits.{is_for}
use Rattle.set_model.specs.Node.{Node}
use Rattle.set_model.specs.Outcome.{refused, replied}
use Rattle.set_model.specs.Reads.{listed, shown_documents, state_of}
use Rattle.set_model.specs.Run.{Run, Sizes, after, opening, run}
use Rattle.set_model.specs.Stores.{Plan}
use Rattle.set_model.specs.World.{World, by_plan, plan_of, step, task, touched_node}
use Rattle.safety_laws.specs.Bounds.{NumbersStaySmall}
use Rattle.safety_laws.proofs.Places.{get_set_same}
use Rattle.change_stream.proofs.EventLemmas.{by_up, log_told, state_told, told_at}
use Rattle.change_stream.proofs.StepLemmas.{none_past}
use Rattle.sync_pin.specs.Asking.{Tells}

-- ---- one event

pub record Stepped (sizes : Sizes) (old new : List Event) (command : Command) (answered : Reply) : Type 0 where
  pub event : Event
  pub command_is : event.command ≡ command
  pub new_is : new ≡ old ++ event ∷ []
  pub reply_is : answered ≡ (step (run sizes old).world event).reply

pub stepped : (sizes : Sizes) (old new : List Event) (command : Command) (answered : Reply) → Tells sizes old new command answered → Stepped sizes old new command answered
stepped sizes old new command answered tells =
    let met_is : tells.met ≡ old = tells.learns.new_is ∙ ap (λ l. old ++ l) (tells.learns.none refl) ∙ append-nil old in
    record {
      event = tells.event;
      command_is = tells.command_is;
      new_is = tells.new_is ∙ ap (λ l. l ++ tells.event ∷ []) met_is;
      reply_is = tells.reply_is ∙ ap (λ l. (step (run sizes l).world tells.event).reply) met_is;
    }

world_after : (sizes : Sizes) (old : List Event) (event : Event) → (run sizes (old ++ event ∷ [])).world ≡ (step (run sizes old).world event).world
world_after sizes old event = ap (λ (r : Run). r.world) (fold-append after (opening sizes) old (event ∷ []))

-- ---- a node that shows something stays as it is

still_there : (world : World) (event : Event) (node : Node) (answer : Reply) (up : Bool) → slice_get world.nodes (touched_node world event.command) ≡ Some node
    → slice_get (by_plan world event (Some (if up then Plan.finished (replied answer node) else Plan.finished (refused NodeDown node)))).world.nodes (touched_node world event.command) ≡ Some node
still_there world event node answer true there = get_set_same world.nodes (touched_node world event.command) node node there
still_there world event node answer false there = get_set_same world.nodes (touched_node world event.command) node node there

module _ (world : World) (event : Event) (number : ℕ) (node : Node) (there : slice_get world.nodes number ≡ Some node) where
  abbrev AsIf : Command → Event
  AsIf command = record event { command = command }

  abbrev Keeps : Command → Type 0
  Keeps command = slice_get (step world (AsIf command)).world.nodes number ≡ Some node

  abbrev KeepsBy : Command → Option Node → Type 0
  KeepsBy command found =
      slice_get (by_plan world (AsIf command) (option_and_then (plan_of world (AsIf command) (task world command)) found)).world.nodes number ≡ Some node

  state_keeps : Keeps (commands.State number)
  state_keeps = subst (KeepsBy (commands.State number)) (sym there) (still_there world (AsIf (commands.State number)) node (state_of node) node.up there)

  log_keeps : Keeps (commands.Log number)
  log_keeps = subst (KeepsBy (commands.Log number)) (sym there) (still_there world (AsIf (commands.Log number)) node (reply.Entries node.log) node.up there)

  dump_keeps : Keeps (commands.Dump number Majority)
  dump_keeps = subst (KeepsBy (commands.Dump number Majority)) (sym there)
      (still_there world (AsIf (commands.Dump number Majority)) node (reply.Documents (listed (shown_documents node Majority))) node.up there)

-- ---- what is told

abbrev pub dumped : Node → Reply
dumped node = reply.Documents (listed (shown_documents node Majority))

dump_told : (world : World) (event : Event) (number : ℕ) → event.command ≡ commands.Dump number Majority → (step world event).reply ≡ told_at dumped (slice_get world.nodes number)
dump_told world event number is = ap (λ c. (step world (record event { command = c })).reply) is ∙ go (slice_get world.nodes number)
  where
    asks : Event
    asks = record event { command = commands.Dump number Majority }

    go : (found : Option Node) → (by_plan world asks (option_and_then (plan_of world asks (task world (commands.Dump number Majority))) found)).reply ≡ told_at dumped found
    go None = refl
    go (Some node) = by_up world asks node (dumped node) node.up

told_up : (shown : Node → Reply) (found : Option Node) (node : Node) → found ≡ Some node → node.up ≡ true → told_at shown found ≡ shown node
told_up shown found node there up = ap (told_at shown) there ∙ ap (λ b. if b then shown node else reply.Refused NodeDown) up

-- ---- the three events

-- after these events the node of this number is this one, and up
pub record IsThere (sizes : Sizes) (events : List Event) (number : ℕ) (node : Node) : Type 0 where
  pub there : slice_get (run sizes events).world.nodes number ≡ Some node
  pub up : node.up ≡ true

-- the node is down, or this one, and this is what it shows
pub record StateIs (sizes : Sizes) (events : List Event) (number : ℕ) (answered : Reply) : Type 0 where
  pub node : Node
  pub is : IsThere sizes events number node
  pub answer : answered ≡ state_of node

module _ (sizes : Sizes) (old new : List Event) (number : ℕ) where
  kept : (command : Command) (answered : Reply) (one : Stepped sizes old new command answered) (node : Node) → slice_get (run sizes old).world.nodes number ≡ Some node
      → ((event : Event) → slice_get (step (run sizes old).world (record event { command = command })).world.nodes number ≡ Some node) → slice_get (run sizes new).world.nodes number ≡ Some node
  kept command answered one node there keeps =
      ap (λ l. slice_get (run sizes l).world.nodes number) one.new_is
      ∙ ap (λ (w : World). slice_get w.nodes number) (world_after sizes old one.event)
      ∙ ap (λ c. slice_get (step (run sizes old).world (record one.event { command = c })).world.nodes number) one.command_is
      ∙ keeps one.event

  pub state_tells : (answered : Reply) → number < sizes.nodes → NumbersStaySmall sizes new → Tells sizes old new (commands.State number) answered
      → (answered ≡ reply.Refused NodeDown) ⊎ StateIs sizes new number answered
  state_tells answered known small tells = go (slice_get (run sizes old).world.nodes number) refl
    where
      one : Stepped sizes old new (commands.State number) answered
      one = stepped sizes old new (commands.State number) answered tells

      told : answered ≡ told_at state_of (slice_get (run sizes old).world.nodes number)
      told = one.reply_is ∙ state_told (run sizes old).world one.event number one.command_is

      count : length (run sizes old).world.nodes ≡ sizes.nodes
      count = ap (λ l. length (run sizes l).world.nodes) (sym (ap (λ l. take (length old) l) one.new_is ∙ take-append_seam old (one.event ∷ []))) ∙ small.count (length old)

      by_up : (node : Node) → slice_get (run sizes old).world.nodes number ≡ Some node → (up : Bool) → node.up ≡ up → (answered ≡ reply.Refused NodeDown) ⊎ StateIs sizes new number answered
      by_up node there true up = inr (record {
        node = node;
        is = record { there = kept (commands.State number) answered one node there (λ event. state_keeps (run sizes old).world event number node there); up = up };
        answer = told ∙ told_up state_of (slice_get (run sizes old).world.nodes number) node there up;
      })
      by_up node there false down = inl (told ∙ ap (told_at state_of) there ∙ ap (λ b. if b then state_of node else reply.Refused NodeDown) down)

      go : (found : Option Node) → slice_get (run sizes old).world.nodes number ≡ found → (answered ≡ reply.Refused NodeDown) ⊎ StateIs sizes new number answered
      go None none = absurd (none_past (run sizes old).world.nodes number none (omega (arith, known, count)))
      go (Some node) there = by_up node there node.up refl

  module _ (node : Node) (before : IsThere sizes old number node) where
    pub log_tells : (answered : Reply) → Tells sizes old new (commands.Log number) answered → (answered ≡ reply.Entries node.log) × IsThere sizes new number node
    log_tells answered tells =
        let one = stepped sizes old new (commands.Log number) answered tells in (
          one.reply_is ∙ log_told (run sizes old).world one.event number one.command_is
              ∙ told_up (λ n. reply.Entries n.log) (slice_get (run sizes old).world.nodes number) node before.there before.up,
          record { there = kept (commands.Log number) answered one node before.there (λ event. log_keeps (run sizes old).world event number node before.there); up = before.up },
        )

    pub dump_tells : (answered : Reply) → Tells sizes old new (commands.Dump number Majority) answered → (answered ≡ dumped node) × IsThere sizes new number node
    dump_tells answered tells =
        let one = stepped sizes old new (commands.Dump number Majority) answered tells in (
          one.reply_is ∙ dump_told (run sizes old).world one.event number one.command_is
              ∙ told_up dumped (slice_get (run sizes old).world.nodes number) node before.there before.up,
          record { there = kept (commands.Dump number Majority) answered one node before.there (λ event. dump_keeps (run sizes old).world event number node before.there); up = before.up },
        )

-- ---- the commands are ones of the set

pub dump_is_for : (node nodes : ℕ) → node < nodes → is_for nodes (commands.Dump node Majority) ≡ true
dump_is_for node nodes within = rw (lt-ltb node nodes within) refl
