-- In each world of a run every entry was written by an event before.
use Rattle.std.proofs.Common.{◌≡◌, ◌∙◌, ◌⊎◌, ◌<◌, inl, inr, ap, arith, sym, subst, refl, ℕ, zero, suc, ◌+◌, Option, None, Some, List, [], ◌∷◌, slice_get, slice_set, length}
use Rattle.std.proofs.lemmas.Bool.{cases_eq}
use Rattle.std.proofs.lemmas.Option.{same_Some}
use Rattle.std.specs.Prelude.{option_and_then}
use Rattle.rs_optime.specs.Membership.{In}
use Rattle.oplog_entry.specs.declared.entry.Entry.{Entry}
use Rattle.member_config.specs.Config.{first_config}
use Rattle.member_config.specs.declared.config.Config.{Config}
use Rattle.repl_msg.specs.Parts.{entries_carried}
use Rattle.repl_msg.specs.declared.message.Message.{Message}
use Rattle.repl_msg.specs.declared.record.Record.{Record}
use Rattle.set_model.specs.declared.command.Event.{Event}
use Rattle.set_model.specs.declared.role.Role.TheVariants as roles
use Rattle.set_model.specs.Node.{Node, opening_node}
use Rattle.set_model.specs.Outcome.{Outcome}
use Rattle.set_model.specs.Run.{Run, Sizes, after, opening, world_at}
use Rattle.set_model.specs.Stores.{Plan, done}
use Rattle.set_model.specs.World.{World, Task, acts, takes, nothing, task, touched_node, plan_of, by_plan, with_outcome, step}
use Rattle.commit_machine.proofs.Growth.{in_append}
use Rattle.safety_laws.proofs.Frame.{task_sent, world_after, world_next}
use Rattle.safety_laws.proofs.Opening.{get_from}
use Rattle.safety_laws.proofs.Places.{get_set_same, get_set_other}
use Rattle.linear_read.specs.Written.{WasWritten, EntriesAreWritten}
use Rattle.linear_read.proofs.Delivers.{deliver_comes}
use Rattle.linear_read.proofs.Held.{AreSuch, RecordHas, Holds, Writes, OrWritten, Comes, PlanComes, comes_done, holds_more, such_more, closed_has}
use Rattle.linear_read.proofs.Rows.{row_comes}

-- ---- one event

-- of each entry in a node's log, on its journal and in a message
pub record WorldHas (P : Entry → Type 0) (world : World) : Type 0 where
  pub each : (number : ℕ) (node : Node) → slice_get world.nodes number ≡ Some node → Holds P node
  pub messages : (message : Message) → In message world.messages → AreSuch P (entries_carried message.body)

-- some node wrote the entry between two worlds
pub record WroteIn (world new : World) (entry : Entry) : Type 0 where
  pub number : ℕ
  pub old : Node
  pub cur : Node
  pub before : slice_get world.nodes number ≡ Some old
  pub next : slice_get new.nodes number ≡ Some cur
  pub writes : Writes old cur entry

abbrev OrWroteIn : (Entry → Type 0) → World → World → Entry → Type 0
OrWroteIn P world new entry = P entry ⊎ WroteIn world new entry

module _ (P : Entry → Type 0) (world : World) (event : Event) (has : WorldHas P world) where
  plan_comes : (what : Task) → ((message : Message) → what ≡ takes message → In message world.messages)
      → (number : ℕ) (node : Node) → slice_get world.nodes number ≡ Some node → (plan : Plan) → plan_of world event what node ≡ Some plan → PlanComes P node plan
  plan_comes (acts n) sent number node there plan is = subst (PlanComes P node) (same_Some _ plan is)
      (row_comes P (length world.nodes) (length world.messages) event.kept node event.command (has.each number node there))
  plan_comes (takes message) sent number node there plan is = subst (PlanComes P node) (same_Some _ plan is)
      (deliver_comes P (length world.messages) node message (has.each number node there) (has.messages message (sent message refl)))
  plan_comes nothing sent number node there plan is = absurd (cc is)

  stays : WorldHas (OrWroteIn P world world) world
  stays = record {
    each = λ number node there. holds_more P (OrWroteIn P world world) (λ entry such. inl such) node (has.each number node there);
    messages = λ message there. such_more P (OrWroteIn P world world) (λ entry such. inl such) (entries_carried message.body) (has.messages message there);
  }

  module _ (number : ℕ) (node : Node) (outcome : Outcome) (there : slice_get world.nodes number ≡ Some node) where
    abbrev moved_world : World
    moved_world = (with_outcome world number outcome).world

    abbrev Q : Entry → Type 0
    Q = OrWroteIn P world (with_outcome world number outcome).world

    moved : slice_get (slice_set world.nodes number outcome.node) number ≡ Some outcome.node
    moved = get_set_same world.nodes number outcome.node node there

    or_wrote : (entry : Entry) → OrWritten P node outcome.node entry → Q entry
    or_wrote entry (inl such) = inl such
    or_wrote entry (inr writes) = inr (record { number = number; old = node; cur = outcome.node; before = there; next = moved; writes = writes })

    outcome_has : Comes P node outcome → WorldHas Q moved_world
    outcome_has comes = record {
      each = λ m cur is. elim (cases_eq number m) [
        | inl same ↦
            let new : outcome.node ≡ cur = same_Some outcome.node cur (sym moved ∙ ap (λ k. slice_get (slice_set world.nodes number outcome.node) k) same ∙ is) in
            subst (Holds Q) new (holds_more (OrWritten P node outcome.node) Q or_wrote outcome.node comes.node)
        | inr other ↦ holds_more P Q (λ entry such. inl such) cur (has.each m cur (sym (get_set_other world.nodes number m outcome.node other) ∙ is))
      ];
      messages = λ message there_too. elim (in_append message world.messages outcome.sent there_too) [
        | inl before ↦ such_more P Q (λ entry such. inl such) (entries_carried message.body) (has.messages message before)
        | inr new ↦ such_more P Q (λ entry such. inl such) (entries_carried message.body) (comes.sent message new)
      ];
    }

  pub step_has : WorldHas (OrWroteIn P world (step world event).world) (step world event).world
  step_has = at_node (slice_get world.nodes number) refl
    where
      number : ℕ
      number = touched_node world event.command

      by : Node → Option Plan
      by node = plan_of world event (task world event.command) node

      at_plan : (node : Node) → slice_get world.nodes number ≡ Some node → (plan : Option Plan) → by node ≡ plan
          → WorldHas (OrWroteIn P world (by_plan world event plan).world) (by_plan world event plan).world
      at_plan node there None is = stays
      at_plan node there (Some plan) is = outcome_has number node (done plan event.failed) there
          (comes_done P node plan event.failed (plan_comes (task world event.command) (task_sent world event.command) number node there plan is))

      at_node : (found : Option Node) → slice_get world.nodes number ≡ found
          → WorldHas (OrWroteIn P world (by_plan world event (option_and_then by found)).world) (by_plan world event (option_and_then by found)).world
      at_node None there = stays
      at_node (Some node) there = at_plan node there (by node) refl

-- ---- runs

pub world_more : (P Q : Entry → Type 0) → ((entry : Entry) → P entry → Q entry) → (world : World) → WorldHas P world → WorldHas Q world
world_more P Q more world has = record {
  each = λ number node there. holds_more P Q more node (has.each number node there);
  messages = λ message there. such_more P Q more (entries_carried message.body) (has.messages message there);
}

-- past the last event the world stays
world_stays : (start : Run) (events : List Event) (place : ℕ) → slice_get events place ≡ None → world_after start events (suc place) ≡ world_after start events place
world_stays start [] zero none = refl
world_stays start [] (suc place) none = refl
world_stays start (event ∷ events) zero none = absurd (cc none)
world_stays start (event ∷ events) (suc place) none = world_stays (after start event) events place none

-- as the set begins, no node has an entry
opening_has : (P : Entry → Type 0) (first : Config) (number : ℕ) → Holds P (opening_node first number)
opening_has P first number = (
  closed_has P 0 roles.Secondary [] (λ entry there. absurd there),
  record { each = λ item there. elim there [ inl same ↦ subst (λ (r : Record). RecordHas P r) same tt | inr none ↦ absurd none ]; doubted = tt },
)

module _ (sizes : Sizes) (events : List Event) where
  later : (place : ℕ) (entry : Entry) → WasWritten sizes events place entry → WasWritten sizes events (suc place) entry
  later place entry was = (was.0, (let less : was.0 < place = was.1 in omega (arith, less)), was.2)

  -- what the event after a place wrote
  by_event : (place : ℕ) (event : Event) → slice_get events place ≡ Some event → (entry : Entry)
      → OrWroteIn (WasWritten sizes events place) (world_at sizes events place) (world_at sizes events (suc place)) entry → WasWritten sizes events (suc place) entry
  by_event place event is entry (inl was) = later place entry was
  by_event place event is entry (inr wrote) = (
    place,
    omega arith,
    record {
      event = event;
      event_is = is;
      number = wrote.number;
      old = wrote.old;
      new = wrote.cur;
      before = record { at = record { there = wrote.before; up = wrote.writes.up }; term_is = wrote.writes.term; role = wrote.writes.leads };
      next = record { at = record { there = wrote.next; up = wrote.writes.up_still }; term_is = wrote.writes.term_still; role = wrote.writes.leads_still };
      more = wrote.writes.more;
    },
  )

  written_at : (place : ℕ) → WorldHas (WasWritten sizes events place) (world_at sizes events place)
  written_at zero = record {
    each = λ number node there. subst (Holds (WasWritten sizes events 0)) (sym (get_from (first_config sizes.voters sizes.members) 0 sizes.nodes number node there))
        (opening_has (WasWritten sizes events 0) (first_config sizes.voters sizes.members) (0 + number));
    messages = λ message there. absurd there;
  }
  written_at (suc place) = go (written_at place) (slice_get events place) refl
    where
      go : WorldHas (WasWritten sizes events place) (world_at sizes events place) → (found : Option Event) → slice_get events place ≡ found
          → WorldHas (WasWritten sizes events (suc place)) (world_at sizes events (suc place))
      go has None is = subst (WorldHas (WasWritten sizes events (suc place))) (sym (world_stays (opening sizes) events place is))
          (world_more (WasWritten sizes events place) (WasWritten sizes events (suc place)) (later place) (world_at sizes events place) has)
      go has (Some event) is =
          let next : world_at sizes events (suc place) ≡ (step (world_at sizes events place) event).world = world_next (opening sizes) events place event is in
          world_more (OrWroteIn (WasWritten sizes events place) (world_at sizes events place) (world_at sizes events (suc place))) (WasWritten sizes events (suc place))
          (by_event place event is) (world_at sizes events (suc place))
          (subst (λ w. WorldHas (OrWroteIn (WasWritten sizes events place) (world_at sizes events place) w) w) (sym next)
          (step_has (WasWritten sizes events place) (world_at sizes events place) event has))

  pub entries_written : EntriesAreWritten sizes events
  entries_written = record {
    logs = λ place number node there. ((written_at place).each number node there).0.such;
    messages = λ place. (written_at place).messages;
  }
