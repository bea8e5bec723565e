-- Each world of a run is within limits that grow with its events.
use Rattle.std.proofs.Common.{slice_get, slice_set, ◌≤◌, ◌<◌, ◌+◌, ◌*◌, arith, ◌≡◌, ◌∙◌, inl, inr, ap, sym, subst, refl, ℕ, zero, suc, Bool, true, false, not, nat_lt, cond, filter, length, map, Option, None, Some, List, [], ◌∷◌, ◌++◌}
use Rattle.std.proofs.lemmas.Bool.{cases_eq, lt-ltb}
use Rattle.std.proofs.lemmas.List.{length-append, length-set}
use Rattle.std.specs.Prelude.{IfSome, Contains, option_and_then}
use Rattle.std.proofs.lemmas.Option.{same_Some}
use Rattle.rs_optime.specs.Time.{timestamp_after}
use Rattle.rs_optime.specs.Membership.{In}
use Rattle.rs_optime.proofs.MembershipLemmas.{in_all}
use Rattle.oplog_entry.specs.declared.entry.Entry.{Entry}
use Rattle.member_config.specs.declared.config.Config.{Config}
use Rattle.member_config.specs.Config.{members_from}
use Rattle.member_config.specs.Numbers.{first_of}
use Rattle.repl_msg.specs.declared.message.Body.{Body}
use Rattle.repl_msg.specs.declared.message.Body.TheVariants as bodies
use Rattle.repl_msg.specs.declared.message.Message.{Message}
use Rattle.repl_msg.specs.declared.record.Record.{Record}
use Rattle.repl_msg.specs.declared.record.Record.TheVariants as records
use Rattle.repl_msg.specs.Parts.{config_kept, entries_kept, entries_carried, term_asked}
use Rattle.set_model.specs.declared.command.Event.{Event}
use Rattle.set_model.specs.declared.store.Store.{Store}
use Rattle.set_model.specs.declared.store.Store.TheVariants as stores
use Rattle.set_model.specs.Limits.{Fits, AllFit, IsRun, is_for}
use Rattle.set_model.specs.Node.{Node, opening_node}
use Rattle.set_model.specs.Outcome.{Outcome}
use Rattle.set_model.specs.Run.{Run, Sizes, AreSizes, after, opening, world_at}
use Rattle.set_model.specs.Rows.{row}
use Rattle.set_model.specs.Stores.{Plan, done}
use Rattle.set_model.specs.World.{World, Task, acts, takes, nothing, task, touched_node, plan_of, by_plan, with_outcome, nodes_from, step}
use Rattle.commit_machine.proofs.Growth.{in_append}
use Rattle.safety_laws.specs.Bounds.{AreTimed, last_timestamp, IsSmallNode, IsSmallMessage, NumbersStaySmall, IsLawfulConfig, ConfigsAreLawful}
use Rattle.safety_laws.proofs.Frame.{task_sent, world_after}
use Rattle.safety_laws.proofs.Opening.{first_fine, opening_config, get_from}
use Rattle.safety_laws.proofs.Places.{get_set_same, get_set_other}
use Rattle.safety_laws.proofs.Replies.{contained}
use Rattle.safety_laws.proofs.SmallNodes.{Limits, AreTimely, FineRecord, FineStore, NodeFine, FineMessage, FineOutcome, FinePlan, fine_done, closed_times}
use Rattle.safety_laws.proofs.SmallRows.{RoomFor, row_fine}
use Rattle.safety_laws.proofs.SmallDelivers.{deliver_fine}
use Rattle.safety_laws.proofs.TermBounds.{asked_term, termed_at, sent_in}

-- ---- the limits after so many events

abbrev limits : ℕ → ℕ → ℕ → Limits
limits nodes events place = record { nodes = nodes; place = place; time = last_timestamp events; rollbacks = events; records = 2 * events + 1 }

record IsFineWorld (nodes events : ℕ) (world : World) : Type 0 where
  count : length world.nodes ≡ nodes
  each : (m : ℕ) (node : Node) → slice_get world.nodes m ≡ Some node → NodeFine (limits nodes events m) node
  messages : (message : Message) → In message world.messages → FineMessage nodes (last_timestamp events) message
  few : length world.messages ≤ 7 * events

timely_more : (events : ℕ) (entries : List Entry) → AreTimely (last_timestamp events) entries → AreTimely (last_timestamp (suc events)) entries
timely_more events entries timely entry there = let within : entry.optime.ts ≤ last_timestamp events = timely entry there in omega (arith, within)

record_more : (nodes events : ℕ) (item : Record) → FineRecord nodes (last_timestamp events) item → FineRecord nodes (last_timestamp (suc events)) item
record_more nodes events (records.Vote vote) fine = fine
record_more nodes events (records.Config config) fine = fine
record_more nodes events (records.Entries list point) fine = timely_more events list fine
record_more nodes events (records.Cut at) fine = tt
record_more nodes events (records.Form form) fine = tt

doubt_more : (nodes events : ℕ) (doubt : Option Store) → IfSome doubt (FineStore nodes (last_timestamp events)) → IfSome doubt (FineStore nodes (last_timestamp (suc events)))
doubt_more nodes events None fine = tt
doubt_more nodes events (Some (stores.Record item)) fine = record_more nodes events item fine
doubt_more nodes events (Some (stores.Checkpoint at)) fine = tt

node_more : (nodes events place : ℕ) (node : Node) → NodeFine (limits nodes events place) node → NodeFine (limits nodes (suc events) place) node
node_more nodes events place node ok = (
  record {
    seen_most = let within : node.seen ≤ last_timestamp events = ok.0.seen_most in omega (arith, within);
    timely = timely_more events node.log ok.0.timely;
    slots = λ number at op there. let within : at.ts ≤ last_timestamp events = ok.0.slots number at op there in omega (arith, within);
  },
  ok.1,
  record { each = λ item there. record_more nodes events item (ok.2.each item there); doubted = doubt_more nodes events node.doubt ok.2.doubted },
  record {
    clock_most = ok.3.clock_most;
    rollback_most = let within : node.rollback ≤ events = ok.3.rollback_most in omega (arith, within);
    records_most = let within : length node.records ≤ 2 * events + 1 = ok.3.records_most in omega (arith, within);
  },
)

-- one event has room for a timestamp, a rollback id and two records
room_of : (nodes events place : ℕ) (node : Node) → NodeFine (limits nodes events place) node → RoomFor (limits nodes (suc events) place) node
room_of nodes events place node ok = record {
  next = at_most node.clock node.seen ok.3.clock_most ok.0.seen_most;
  rollbacks = let within : node.rollback ≤ events = ok.3.rollback_most in omega (arith, within);
  records = let within : length node.records ≤ 2 * events + 1 = ok.3.records_most in omega (arith, within);
}
  where
    at_most : (clock seen : ℕ) → clock < 2147483648 → seen ≤ last_timestamp events → timestamp_after clock seen ≤ last_timestamp (suc events)
    at_most clock seen early within = omega (arith, early, within)

message_more : (nodes events : ℕ) (message : Message) → FineMessage nodes (last_timestamp events) message → FineMessage nodes (last_timestamp (suc events)) message
message_more nodes events message fine =
    record { sender = fine.sender; receiver = fine.receiver; config = fine.config; entries = timely_more events (entries_carried message.body) fine.entries }

world_more : (nodes events : ℕ) (world : World) → IsFineWorld nodes events world → IsFineWorld nodes (suc events) world
world_more nodes events world fine = record {
  count = fine.count;
  each = λ m node there. node_more nodes events m node (fine.each m node there);
  messages = λ message there. message_more nodes events message (fine.messages message there);
  few = let few : length world.messages ≤ 7 * events = fine.few in omega (arith, few);
}

-- ---- one event

plan_fine : (nodes events : ℕ) (world : World) (event : Event) → Fits world event → IsFineWorld nodes events world
    → (what : Task) → ((message : Message) → what ≡ takes message → In message world.messages)
    → (m : ℕ) (node : Node) → slice_get world.nodes m ≡ Some node → (plan : Plan) → plan_of world event what node ≡ Some plan → FinePlan (limits nodes (suc events) m) plan
plan_fine nodes events world event fits fine (acts n) sent m node there plan is =
    subst (λ p. FinePlan (limits nodes (suc events) m) p)
    (ap (λ count. row count (length world.messages) event.kept node event.command) (sym fine.count) ∙ same_Some _ plan is)
    (row_fine (limits nodes (suc events) m) (length world.messages) event.kept node event.command (node_more nodes events m node (fine.each m node there)) (room_of nodes events m node (fine.each m node there))
    (subst (λ count. is_for count event.command ≡ true) fine.count fits.command))
plan_fine nodes events world event fits fine (takes message) sent m node there plan is =
    let room : RoomFor (limits nodes (suc events) m) node = room_of nodes events m node (fine.each m node there) in
    subst (λ p. FinePlan (limits nodes (suc events) m) p) (same_Some _ plan is)
    (deliver_fine (limits nodes (suc events) m) (length world.messages) node message (node_more nodes events m node (fine.each m node there))
    (message_more nodes events message (fine.messages message (sent message refl))) room.records room.rollbacks)
plan_fine nodes events world event fits fine nothing sent m node there plan is = absurd (cc is)

outcome_fine : (nodes events : ℕ) (world : World) (number : ℕ) (node : Node) (outcome : Outcome) → slice_get world.nodes number ≡ Some node → IsFineWorld nodes events world
    → FineOutcome (limits nodes (suc events) number) outcome → IsFineWorld nodes (suc events) (with_outcome world number outcome).world
outcome_fine nodes events world number node outcome there fine has = record {
  count = length-set world.nodes number outcome.node ∙ fine.count;
  each = λ m cur is. elim (cases_eq number m) [
    | inl same ↦
        let new : outcome.node ≡ cur = same_Some outcome.node cur (sym (get_set_same world.nodes number outcome.node node there) ∙ ap (λ k. slice_get (slice_set world.nodes number outcome.node) k) same ∙ is) in
        subst (λ k. NodeFine (limits nodes (suc events) k) cur) same (subst (λ n. NodeFine (limits nodes (suc events) number) n) new has.node)
    | inr other ↦ (world_more nodes events world fine).each m cur (sym (get_set_other world.nodes number m outcome.node other) ∙ is)
  ];
  messages = λ message there_too. elim (in_append message world.messages outcome.sent there_too) [
    | inl before ↦ message_more nodes events message (fine.messages message before)
    | inr new ↦ has.sent message new
  ];
  few =
      let long : length (world.messages ++ outcome.sent) ≡ length world.messages + length outcome.sent = length-append world.messages outcome.sent in
      let old : length world.messages ≤ 7 * events = fine.few in
      let more : length outcome.sent ≤ 7 = has.few in
      omega (arith, long, old, more);
}

-- what an event sends
step_sends : (nodes events : ℕ) (world : World) (event : Event) → Fits world event → IsFineWorld nodes events world → length (step world event).world.messages ≤ length world.messages + 7
step_sends nodes events world event fits fine = at_node (slice_get world.nodes number) refl
  where
    number : ℕ
    number = touched_node world event.command

    by : Node → Option Plan
    by node = plan_of world event (task world event.command) node

    at_plan : (node : Node) → slice_get world.nodes number ≡ Some node → (plan : Option Plan) → by node ≡ plan → length (by_plan world event plan).world.messages ≤ length world.messages + 7
    at_plan node there None is = omega arith
    at_plan node there (Some plan) is =
        let few : length (done plan event.failed).sent ≤ 7 =
        (fine_done (limits nodes (suc events) number) plan event.failed
        (plan_fine nodes events world event fits fine (task world event.command) (task_sent world event.command) number node there plan is)).few in
        let long : length (world.messages ++ (done plan event.failed).sent) ≡ length world.messages + length (done plan event.failed).sent = length-append world.messages (done plan event.failed).sent in
        omega (arith, few, long)

    at_node : (found : Option Node) → slice_get world.nodes number ≡ found → length (by_plan world event (option_and_then by found)).world.messages ≤ length world.messages + 7
    at_node None there = omega arith
    at_node (Some node) there = at_plan node there (by node) refl

step_fine : (nodes events : ℕ) (world : World) (event : Event) → Fits world event → IsFineWorld nodes events world → IsFineWorld nodes (suc events) (step world event).world
step_fine nodes events world event fits fine = at_node (slice_get world.nodes number) refl
  where
    number : ℕ
    number = touched_node world event.command

    by : Node → Option Plan
    by node = plan_of world event (task world event.command) node

    at_plan : (node : Node) → slice_get world.nodes number ≡ Some node → (plan : Option Plan) → by node ≡ plan → IsFineWorld nodes (suc events) (by_plan world event plan).world
    at_plan node there None is = world_more nodes events world fine
    at_plan node there (Some plan) is =
        outcome_fine nodes events world number node (done plan event.failed) there fine
        (fine_done (limits nodes (suc events) number) plan event.failed
        (plan_fine nodes events world event fits fine (task world event.command) (task_sent world event.command) number node there plan is))

    at_node : (found : Option Node) → slice_get world.nodes number ≡ found → IsFineWorld nodes (suc events) (by_plan world event (option_and_then by found)).world
    at_node None there = world_more nodes events world fine
    at_node (Some node) there = at_plan node there (by node) refl

-- ---- runs

fine_from : (nodes : ℕ) (start : Run) (events : List Event) (bound place : ℕ) → AllFit start.world events → IsFineWorld nodes bound start.world → IsFineWorld nodes (bound + place) (world_after start events place)
fine_from nodes start events bound zero fit fine = subst (λ b. IsFineWorld nodes b start.world) (let same : bound ≡ bound + 0 = omega arith in same) fine
fine_from nodes start [] bound (suc place) fit fine =
    subst (λ b. IsFineWorld nodes b start.world) (let same : suc (bound + place) ≡ bound + suc place = omega arith in same)
    (world_more nodes (bound + place) start.world (subst (λ w. IsFineWorld nodes (bound + place) w) (same_world place) (fine_from nodes start [] bound place fit fine)))
  where
    same_world : (k : ℕ) → world_after start [] k ≡ start.world
    same_world zero = refl
    same_world (suc k) = refl
fine_from nodes start (event ∷ events) bound (suc place) fit fine =
    subst (λ b. IsFineWorld nodes b (world_after (after start event) events place)) (let same : suc bound + place ≡ bound + suc place = omega arith in same)
    (fine_from nodes (after start event) events (suc bound) place fit.1 (step_fine nodes bound start.world event fit.0 fine))

-- each event sends at most seven messages
sends_from : (nodes : ℕ) (start : Run) (events : List Event) (bound place : ℕ) → AllFit start.world events → IsFineWorld nodes bound start.world
    → length (world_after start events (suc place)).messages ≤ length (world_after start events place).messages + 7
sends_from nodes start [] bound zero fit fine = omega arith
sends_from nodes start [] bound (suc place) fit fine = omega arith
sends_from nodes start (event ∷ events) bound zero fit fine = step_sends nodes bound start.world event fit.0 fine
sends_from nodes start (event ∷ events) bound (suc place) fit fine =
    sends_from nodes (after start event) events (suc bound) place fit.1 (step_fine nodes bound start.world event fit.0 fine)

-- the first members are nodes of the set
first_known : (voting first count nodes : ℕ) → first + count ≤ nodes → filter (λ number. not (nat_lt number nodes)) (map (λ m. m.number) (members_from voting first count)) ≡ []
first_known voting first zero nodes within = refl
first_known voting first (suc count) nodes within = go (nat_lt first nodes) (first_known voting (first + 1) count nodes (omega (arith, within))) less
  where
    rest : List ℕ
    rest = filter (λ number. not (nat_lt number nodes)) (map (λ m. m.number) (members_from voting (first + 1) count))

    less : nat_lt first nodes ≡ true
    less = lt-ltb first nodes (omega (arith, within))

    go : (b : Bool) → rest ≡ [] → b ≡ true → cond (not b) (first ∷ rest) rest ≡ []
    go true none is = none
    go false none is = absurd (cc is)

first_lawful : (sizes : Sizes) → AreSizes sizes → IsLawfulConfig sizes.nodes (opening_config sizes)
first_lawful sizes are = record {
  rules = first_fine sizes are;
  members = ap first_of (first_known sizes.voters 0 sizes.members sizes.nodes (let within : 0 + sizes.members ≤ sizes.nodes = omega (arith, are.within) in within));
}

pub count_from : (first : Config) (from count : ℕ) → length (nodes_from first from count) ≡ count
count_from first from zero = refl
count_from first from (suc count) = ap suc (count_from first (from + 1) count)

place_from : (first : Config) (from count m : ℕ) (node : Node) → slice_get (nodes_from first from count) m ≡ Some node → m < count
place_from first from zero m node there = absurd (cc there)
place_from first from (suc count) zero node there = omega arith
place_from first from (suc count) (suc m) node there = let less : m < count = place_from first (from + 1) count m node there in omega (arith, less)

opening_fine : (nodes place : ℕ) (first : Config) → place < nodes → IsLawfulConfig nodes first → NodeFine (limits nodes 0 place) (opening_node first place)
opening_fine nodes place first less fine = (
  closed_times (last_timestamp 0) 0 [] (omega arith) (λ entry there. absurd there),
  record { number_is = refl; known = less; voted = tt; config_fine = fine; first_fine = fine },
  record { each = λ item there. elim there [ inl same ↦ subst (λ (r : Record). FineRecord nodes (last_timestamp 0) r) same tt | inr none ↦ absurd none ]; doubted = tt },
  record { clock_most = omega arith; rollback_most = omega arith; records_most = omega arith },
)

opening_world_fine : (sizes : Sizes) → AreSizes sizes → IsFineWorld sizes.nodes 0 (opening sizes).world
opening_world_fine sizes are = record {
  count = count_from (opening_config sizes) 0 sizes.nodes;
  each = λ m node there. subst (λ n. NodeFine (limits sizes.nodes 0 m) n)
      (sym (get_from (opening_config sizes) 0 sizes.nodes m node there ∙ ap (opening_node (opening_config sizes)) (let same : 0 + m ≡ m = omega arith in same)))
      (opening_fine sizes.nodes m (opening_config sizes) (place_from (opening_config sizes) 0 sizes.nodes m node there) (first_lawful sizes are));
  messages = λ message there. absurd there;
  few = omega arith;
}

fine_at : (sizes : Sizes) (events : List Event) → AreSizes sizes → IsRun sizes events → (place : ℕ) → IsFineWorld sizes.nodes place (world_at sizes events place)
fine_at sizes events are is place = subst (λ bound. IsFineWorld sizes.nodes bound (world_at sizes events place)) (let same : 0 + place ≡ place = omega arith in same)
    (fine_from sizes.nodes (opening sizes) events 0 place is (opening_world_fine sizes are))

-- ---- the two laws

timed_of : (events : ℕ) (entries : List Entry) → AreTimely (last_timestamp events) entries → AreTimed events entries
timed_of events entries timely = in_all (λ entry. entry.optime.ts ≤ last_timestamp events) entries timely

kept_timed : (nodes events : ℕ) (item : Record) → FineRecord nodes (last_timestamp events) item → AreTimed events (entries_kept item)
kept_timed nodes events (records.Vote vote) fine = timed_of events [] (λ entry there. absurd there)
kept_timed nodes events (records.Config config) fine = timed_of events [] (λ entry there. absurd there)
kept_timed nodes events (records.Entries list point) fine = timed_of events list fine
kept_timed nodes events (records.Cut at) fine = timed_of events [] (λ entry there. absurd there)
kept_timed nodes events (records.Form form) fine = timed_of events [] (λ entry there. absurd there)

kept_lawful : (nodes time : ℕ) (item : Record) → FineRecord nodes time item → IfSome (config_kept item) (IsLawfulConfig nodes)
kept_lawful nodes time (records.Vote vote) fine = tt
kept_lawful nodes time (records.Config config) fine = fine
kept_lawful nodes time (records.Entries list point) fine = tt
kept_lawful nodes time (records.Cut at) fine = tt
kept_lawful nodes time (records.Form form) fine = tt

asked_small : (events : ℕ) (body : Body) → asked_term body ≤ events → IfSome (term_asked body) (λ asked. asked ≤ events)
asked_small events (bodies.Fetch base) within = tt
asked_small events (bodies.FetchReply reply) within = tt
asked_small events (bodies.Report config durable) within = tt
asked_small events (bodies.VoteAsk ask) within = within
asked_small events (bodies.VoteReply asked dry refused) within = tt
asked_small events (bodies.Heartbeat beat) within = tt
asked_small events (bodies.HeartbeatReply beat) within = tt
asked_small events (bodies.CommonAsk commit) within = tt
asked_small events (bodies.CommonReply after optimes visible) within = tt

module _ (sizes : Sizes) (events : List Event) (are : AreSizes sizes) (is : IsRun sizes events) where
  fine_world : (place : ℕ) → IsFineWorld sizes.nodes place (world_at sizes events place)
  fine_world place = fine_at sizes events are is place

  small_node : (place number : ℕ) (node : Node) → slice_get (world_at sizes events place).nodes number ≡ Some node → IsSmallNode sizes.nodes place number node
  small_node place number node there = record {
    number = fine.1.number_is;
    known = fine.1.known;
    term = ((termed_at sizes events place).nodes number node there).within;
    vote = fine.1.voted;
    rollback = fine.3.rollback_most;
    clock = fine.3.clock_most;
    seen = fine.0.seen_most;
    log = timed_of place node.log fine.0.timely;
    records = fine.3.records_most;
    kept = in_all (λ item. AreTimed place (entries_kept item)) node.records (λ item among. kept_timed sizes.nodes place item (fine.2.each item among));
  }
    where
      fine : NodeFine (limits sizes.nodes place number) node
      fine = (fine_world place).each number node there

  small_message : (place : ℕ) (message : Message) → Contains (world_at sizes events place).messages message → IsSmallMessage sizes.nodes place message
  small_message place message has = record {
    sender = fine.sender;
    receiver = fine.receiver;
    term = terms.0;
    asked = asked_small place message.body terms.1;
    entries = timed_of place (entries_carried message.body) fine.entries;
  }
    where
      among : In message (world_at sizes events place).messages
      among = contained (world_at sizes events place).messages message has

      fine : FineMessage sizes.nodes (last_timestamp place) message
      fine = (fine_world place).messages message among

      terms : (message.term ≤ place) × (asked_term message.body ≤ place)
      terms = sent_in place (world_at sizes events place).messages (termed_at sizes events place).messages message among

  pub numbers_small : NumbersStaySmall sizes events
  numbers_small = record {
    count = λ place. (fine_world place).count;
    nodes = small_node;
    messages = small_message;
    sent = λ place. (fine_world place).few;
    each = λ place. sends_from sizes.nodes (opening sizes) events 0 place is (opening_world_fine sizes are);
  }

  pub configs_lawful : ConfigsAreLawful sizes events
  configs_lawful = record {
    nodes = λ place number node there.
        let fine : NodeFine (limits sizes.nodes place number) node = (fine_world place).each number node there in
        record {
          first = fine.1.first_fine;
          config = fine.1.config_fine;
          kept = in_all (λ item. IfSome (config_kept item) (IsLawfulConfig sizes.nodes)) node.records (λ item among. kept_lawful sizes.nodes (last_timestamp place) item (fine.2.each item among));
        };
    messages = λ place message has. ((fine_world place).messages message (contained (world_at sizes events place).messages message has)).config;
  }
