-- What keeps the numbers and the configurations of a node within limits, and what a node's changes
-- preserve of that.
use Rattle.std.proofs.Common.{◌≡◌, ◌≤◌, ◌<◌, ◌+◌, arith, inl, inr, subst, refl, ℕ, zero, suc, Bool, true, false, not, nat_lt, ltb-true, ltb-false, cond, filter, length, map, max, take, fold, unwrap_or, Option, None, Some, List, [], ◌∷◌, ◌++◌}
use Rattle.std.proofs.lemmas.Bool.{or_parts}
use Rattle.std.proofs.lemmas.List.{length-append}
use Rattle.std.specs.Prelude.{⊤, IfSome}
use Rattle.std.specs.FinMap as maps
use Rattle.std.specs.Ordering.{nat_cmp}
use Rattle.std.proofs.lemmas.Option.{same_Some}
use Rattle.rs_optime.specs.Order.{is_before}
use Rattle.rs_optime.specs.declared.optime.OpTime.{OpTime}
use Rattle.rs_optime.specs.Membership.{In}
use Rattle.rs_optime.proofs.MembershipLemmas.{in_filter, in_take}
use Rattle.oplog_entry.specs.Visible.{last_of, least, entries_before}
use Rattle.oplog_entry.specs.declared.entry.Entry.{Entry}
use Rattle.oplog_entry.specs.declared.entry.Op.{Op}
use Rattle.oplog_store.specs.Log.{with_entry}
use Rattle.member_config.specs.declared.config.Config.{Config}
use Rattle.member_config.specs.declared.config.Member.{Member}
use Rattle.member_config.specs.Config.{in_term}
use Rattle.member_config.specs.Numbers.{put, in_order, first_of, lowest, has_twice}
use Rattle.member_config.specs.Rule.{has_wrong_count, has_wrong_votes}
use Rattle.member_config.specs.Voters.{numbers, voters}
use Rattle.repl_msg.specs.Kept.{nothing_kept, with_record, kept}
use Rattle.repl_msg.specs.declared.message.Body.{Body}
use Rattle.repl_msg.specs.declared.message.Message.{Message}
use Rattle.repl_msg.specs.declared.record.Kept.{Kept}
use Rattle.repl_msg.specs.declared.record.Record.{Record}
use Rattle.repl_msg.specs.declared.record.Record.TheVariants as records
use Rattle.repl_msg.specs.Parts.{config_carried, entries_carried}
use Rattle.set_model.specs.declared.reply.Reply.{Reply}
use Rattle.set_model.specs.declared.store.Store.{Store}
use Rattle.set_model.specs.declared.store.Store.TheVariants as stores
use Rattle.set_model.specs.declared.writer.Writer.{Writer}
use Rattle.set_model.specs.declared.writer.Writer.TheVariants as writers
use Rattle.set_model.specs.Changes.{all_lost}
use Rattle.set_model.specs.Fetching.{seen_after}
use Rattle.set_model.specs.Node.{Node, down}
use Rattle.set_model.specs.Outcome.{Outcome, replied, sending, message_to}
use Rattle.set_model.specs.Points.{visible_log}
use Rattle.set_model.specs.Stores.{Plan, finished, storing, done, in_doubt, stored}
use Rattle.set_model.proofs.LostLemmas.{none_open}
use Rattle.commit_machine.proofs.Growth.{in_append}
use Rattle.safety_laws.specs.Bounds.{IsLawfulConfig}
use Rattle.safety_laws.proofs.Merges.{in_entry, in_entries}
use Rattle.safety_laws.proofs.Opening.{no_writer}
use Rattle.safety_laws.proofs.Slots.{open_with, open_without}
use Rattle.safety_laws.proofs.Voters.{unless_some}

-- ---- limits

-- how many nodes there are, which of them this is, and the greatest timestamp, rollback id and number of records
pub record Limits : Type 0 where
  pub nodes : ℕ
  pub place : ℕ
  pub time : ℕ
  pub rollbacks : ℕ
  pub records : ℕ

abbrev pub AreTimely : ℕ → List Entry → Type 0
AreTimely time entries = (entry : Entry) → In entry entries → entry.optime.ts ≤ time

-- what is seen, written and reserved
pub record HasTimes (time seen : ℕ) (log : List Entry) (open_ones : maps.FinMap nat_cmp Writer) : Type 0 where
  pub seen_most : seen ≤ time
  pub timely : AreTimely time log
  pub slots : (number : ℕ) (at : OpTime) (op : Op) → maps.get open_ones number ≡ Some (writers.Open at op) → at.ts ≤ time

pub record HasNames (nodes place number : ℕ) (vote : Option ℕ) (config first : Config) : Type 0 where
  pub number_is : number ≡ place
  pub known : place < nodes
  pub voted : IfSome vote (λ candidate. candidate < nodes)
  pub config_fine : IsLawfulConfig nodes config
  pub first_fine : IsLawfulConfig nodes first

abbrev pub FineRecord : ℕ → ℕ → Record → Type 0
FineRecord nodes time (records.Vote vote) = IfSome vote.candidate (λ candidate. candidate < nodes)
FineRecord nodes time (records.Config config) = IsLawfulConfig nodes config
FineRecord nodes time (records.Entries list point) = AreTimely time list
FineRecord nodes time (records.Cut at) = ⊤
FineRecord nodes time (records.Form form) = ⊤

abbrev pub FineStore : ℕ → ℕ → Store → Type 0
FineStore nodes time (stores.Record item) = FineRecord nodes time item
FineStore nodes time (stores.Checkpoint at) = ⊤

-- what is on the journal, or may be
pub record HasDisks (nodes time : ℕ) (items : List Record) (doubt : Option Store) : Type 0 where
  pub each : (item : Record) → In item items → FineRecord nodes time item
  pub doubted : IfSome doubt (FineStore nodes time)

pub record HasCounts (rollbacks many clock rollback : ℕ) (items : List Record) : Type 0 where
  pub clock_most : clock < 2147483648
  pub rollback_most : rollback ≤ rollbacks
  pub records_most : length items ≤ many

abbrev pub NodeFine : Limits → Node → Type 0
NodeFine l node =
    HasTimes l.time node.seen node.log node.writers × HasNames l.nodes l.place node.number node.vote node.config node.first
    × HasDisks l.nodes l.time node.records node.doubt × HasCounts l.rollbacks l.records node.clock node.rollback node.records

-- ---- messages, outcomes and plans

pub record FineMessage (nodes time : ℕ) (message : Message) : Type 0 where
  pub sender : message.from < nodes
  pub receiver : message.to < nodes
  pub config : IfSome (config_carried message.body) (IsLawfulConfig nodes)
  pub entries : AreTimely time (entries_carried message.body)

pub record FineOutcome (l : Limits) (outcome : Outcome) : Type 0 where
  pub node : NodeFine l outcome.node
  pub sent : (message : Message) → In message outcome.sent → FineMessage l.nodes l.time message
  pub few : length outcome.sent ≤ 7

abbrev pub FinePlan : Limits → Plan → Type 0
FinePlan l (finished outcome) = FineOutcome l outcome
FinePlan l (storing broken rest) = NodeFine l broken × FinePlan l rest

-- nothing is sent
pub quiet : (l : Limits) (answer : Reply) (node : Node) → NodeFine l node → FineOutcome l (replied answer node)
quiet l answer node ok = record { node = ok; sent = λ message there. absurd there; few = omega arith }

pub fine_done : (l : Limits) (plan : Plan) (failed : Option ℕ) → FinePlan l plan → FineOutcome l (done plan failed)
fine_done l (finished outcome) failed fine = fine
fine_done l (storing broken rest) None fine = fine_done l rest None fine.1
fine_done l (storing broken rest) (Some zero) fine = quiet l _ broken fine.0
fine_done l (storing broken rest) (Some (suc number)) fine = fine_done l rest (Some number) fine.1

-- ---- entries

pub last_timely : (time : ℕ) (log : List Entry) → AreTimely time log → (last_of log).ts ≤ time
last_timely time [] timely = omega arith
last_timely time (entry ∷ []) timely = timely entry (inl refl)
last_timely time (entry ∷ next ∷ log) timely = last_timely time (next ∷ log) (λ other there. timely other (inr there))

pub filter_timely : (time : ℕ) (test : Entry → Bool) (log : List Entry) → AreTimely time log → AreTimely time (filter test log)
filter_timely time test log timely entry there = timely entry (in_filter test log entry there).0

pub take_timely : (time many : ℕ) (log : List Entry) → AreTimely time log → AreTimely time (take many log)
take_timely time many log timely entry there = timely entry (in_take many entry log there)

pub append_timely : (time : ℕ) (one two : List Entry) → AreTimely time one → AreTimely time two → AreTimely time (one ++ two)
append_timely time one two first second entry there = elim (in_append entry one two there) [
  | inl before ↦ first entry before
  | inr after ↦ second entry after
]

pub with_timely : (time : ℕ) (log : List Entry) (added : Entry) → AreTimely time log → added.optime.ts ≤ time → AreTimely time (with_entry log added)
with_timely time log added timely new entry there = elim (in_entry entry log added there) [
  | inl before ↦ timely entry before
  | inr same ↦ subst (λ (e : Entry). e.optime.ts ≤ time) same new
]

pub seen_most_after : (time seen : ℕ) (entries : List Entry) → seen ≤ time → AreTimely time entries → seen_after seen entries ≤ time
seen_most_after time seen [] most timely = most
seen_most_after time seen (entry ∷ entries) most timely =
    let first : entry.optime.ts ≤ time = timely entry (inl refl) in
    seen_most_after time (max seen entry.optime.ts) entries (omega (arith, most, first)) (λ other there. timely other (inr there))

pub visible_timely : (time : ℕ) (node : Node) → AreTimely time node.log → AreTimely time (visible_log node)
visible_timely time node timely = go (least _)
  where
    go : (slot : Option OpTime) → AreTimely time (entries_before slot node.log)
    go None = timely
    go (Some slot) = filter_timely time (λ entry. is_before entry.optime slot) node.log timely

-- ---- times

pub logged_times : (time seen later : ℕ) (log : List Entry) (open_ones : maps.FinMap nat_cmp Writer) (entry : Entry) → HasTimes time seen log open_ones
    → later ≤ time → entry.optime.ts ≤ time → HasTimes time later (with_entry log entry) open_ones
logged_times time seen later log open_ones entry has within new =
    record { seen_most = within; timely = with_timely time log entry has.timely new; slots = has.slots }

opened_at : (one two : OpTime) (op other : Op) → writers.Open one op ≡ writers.Open two other → one ≡ two
opened_at one two op other same = cc same

pub opened_times : (time seen later : ℕ) (log : List Entry) (open_ones : maps.FinMap nat_cmp Writer) (writer : ℕ) (at : OpTime) (op : Op) → HasTimes time seen log open_ones
    → later ≤ time → at.ts ≤ time → HasTimes time later log (maps.insert open_ones writer (writers.Open at op))
opened_times time seen later log open_ones writer at op has within new = record {
  seen_most = within;
  timely = has.timely;
  slots = λ number by other there. elim (open_with open_ones writer number (writers.Open at op) by other there) [
    | inl same ↦ subst (λ (o : OpTime). o.ts ≤ time) (opened_at at by op other same.1) new
    | inr before ↦ has.slots number by other before.1
  ];
}

pub settled_times : (time seen : ℕ) (log : List Entry) (open_ones : maps.FinMap nat_cmp Writer) (writer : ℕ) (at : OpTime) (op : Op) → HasTimes time seen log open_ones
    → at.ts ≤ time → HasTimes time seen (with_entry log (record { optime = at; op = op; session = None })) (maps.insert open_ones writer (writers.Done at))
settled_times time seen log open_ones writer at op has new = record {
  seen_most = has.seen_most;
  timely = with_timely time log (record { optime = at; op = op; session = None }) has.timely new;
  slots = λ number by other there. elim (open_with open_ones writer number (writers.Done at) by other there) [
    | inl same ↦ absurd (cc same.1)
    | inr before ↦ has.slots number by other before.1
  ];
}

pub aborted_times : (time seen : ℕ) (log : List Entry) (open_ones : maps.FinMap nat_cmp Writer) (writer : ℕ) → HasTimes time seen log open_ones
    → HasTimes time seen log (maps.remove open_ones writer)
aborted_times time seen log open_ones writer has = record {
  seen_most = has.seen_most;
  timely = has.timely;
  slots = λ number by other there. has.slots number by other (open_without open_ones writer number by other there).1;
}

-- each open writer is lost
pub lost_times : (time seen : ℕ) (log : List Entry) (open_ones : maps.FinMap nat_cmp Writer) → HasTimes time seen log open_ones
    → HasTimes time seen log (maps.from_entries (all_lost (maps.entries open_ones)))
lost_times time seen log open_ones has = record {
  seen_most = has.seen_most;
  timely = has.timely;
  slots = λ number by other there. absurd (none_open (maps.entries open_ones) number by other there);
}

-- no writer is open
pub closed_times : (time seen : ℕ) (log : List Entry) → seen ≤ time → AreTimely time log → HasTimes time seen log maps.empty
closed_times time seen log within timely = record { seen_most = within; timely = timely; slots = λ number at op there. no_writer number _ there }

-- ---- configurations

pub in_term_fine : (nodes term : ℕ) (config : Config) → IsLawfulConfig nodes config → IsLawfulConfig nodes (in_term config term)
in_term_fine nodes term config fine = record { rules = fine.rules; members = fine.members }

first_none : (numbers : List ℕ) → first_of numbers ≡ None → numbers ≡ []
first_none [] none = refl
first_none (number ∷ numbers) none = absurd (cc none)

all_known : (nodes : ℕ) (list : List ℕ) → filter (λ number. not (nat_lt number nodes)) list ≡ [] → (number : ℕ) → In number list → number < nodes
all_known nodes [] none number there = absurd there
all_known nodes (first ∷ list) none number there = go (nat_lt first nodes) refl none (λ rest more. all_known nodes list rest number more) there
  where
    go : (b : Bool) → nat_lt first nodes ≡ b → cond (not b) (first ∷ filter (λ n. not (nat_lt n nodes)) list) (filter (λ n. not (nat_lt n nodes)) list) ≡ []
        → (filter (λ n. not (nat_lt n nodes)) list ≡ [] → In number list → number < nodes) → In number (first ∷ list) → number < nodes
    go true is rest later (inl same) = subst (λ n. n < nodes) same (ltb-true first nodes is)
    go true is rest later (inr more) = later rest more
    go false is rest later place = absurd (cc rest)

pub member_known : (nodes : ℕ) (config : Config) → IsLawfulConfig nodes config → (number : ℕ) → In number (numbers config) → number < nodes
member_known nodes config fine number there = all_known nodes (numbers config) (first_none _ fine.members) number there

voter_in : (members : List Member) (number : ℕ) → In number (map (λ m. m.number) (filter (λ m. m.votes) members)) → In number (map (λ m. m.number) members)
voter_in [] number there = absurd there
voter_in (m ∷ members) number there = go m.votes (voter_in members number) there
  where
    go : (b : Bool) → (In number (map (λ x. x.number) (filter (λ x. x.votes) members)) → In number (map (λ x. x.number) members))
        → In number (map (λ x. x.number) (cond b (m ∷ filter (λ x. x.votes) members) (filter (λ x. x.votes) members))) → In number (map (λ x. x.number) (m ∷ members))
    go true rest (inl same) = inl same
    go true rest (inr more) = inr (rest more)
    go false rest more = inr (rest more)

pub voter_known : (nodes : ℕ) (config : Config) → IsLawfulConfig nodes config → (number : ℕ) → In number (voters config) → number < nodes
voter_known nodes config fine number there = member_known nodes config fine number (voter_in config.members number there)

pub few_voters : (nodes : ℕ) (config : Config) → IsLawfulConfig nodes config → length (voters config) ≤ 7
few_voters nodes config fine =
    let one : (has_wrong_count config ≡ false) × _ = unless_some (has_wrong_count config) 1 _ fine.rules in
    let two : (has_twice (numbers config) ≡ false) × _ = unless_some (has_twice (numbers config)) 2 _ one.1 in
    let three : (has_wrong_votes config ≡ false) × _ = unless_some (has_wrong_votes config) 3 _ two.1 in
    ltb-false 7 (length (voters config)) (or_parts _ _ three.0).1

in_put : (number : ℕ) (list : List ℕ) (n : ℕ) → In n (put number list) → In n (number ∷ list)
in_put number [] n there = there
in_put number (other ∷ list) n there = go (nat_lt other number) (in_put number list n) there
  where
    go : (b : Bool) → (In n (put number list) → In n (number ∷ list)) → In n (cond b (other ∷ put number list) (number ∷ other ∷ list)) → In n (number ∷ other ∷ list)
    go true rest (inl same) = inr (inl same)
    go true rest (inr more) = elim (rest more) [ inl first ↦ inl first | inr later ↦ inr (inr later) ]
    go false rest place = place

pub in_ordered : (list : List ℕ) (n : ℕ) → In n (in_order list) → In n list
in_ordered [] n there = there
in_ordered (number ∷ list) n there = elim (in_put number (in_order list) n there) [ inl first ↦ inl first | inr later ↦ inr (in_ordered list n later) ]

pub lowest_in : (list : List ℕ) (number : ℕ) → lowest list ≡ Some number → In number list
lowest_in list number is = go (in_order list) (in_ordered list number) is
  where
    go : (ordered : List ℕ) → (In number ordered → In number list) → first_of ordered ≡ Some number → In number list
    go [] into none = absurd (cc none)
    go (first ∷ others) into same = into (inl (same_Some first number same))

-- ---- disks

-- with a record more
pub with_item : (nodes time : ℕ) (items : List Record) (doubt : Option Store) (item : Record) → HasDisks nodes time items doubt → FineRecord nodes time item
    → HasDisks nodes time (items ++ item ∷ []) doubt
with_item nodes time items doubt item has new = record {
  each = λ other there. elim (in_append other items (item ∷ []) there) [
    | inl before ↦ has.each other before
    | inr last ↦ elim last [ inl same ↦ subst (λ r. FineRecord nodes time r) same new | inr none ↦ absurd none ]
  ];
  doubted = has.doubted;
}

pub with_count : (rollbacks many clock rollback : ℕ) (items : List Record) (item : Record) → HasCounts rollbacks many clock rollback items → length items + 1 ≤ many
    → HasCounts rollbacks many clock rollback (items ++ item ∷ [])
with_count rollbacks many clock rollback items item has room = record {
  clock_most = has.clock_most;
  rollback_most = has.rollback_most;
  records_most = let long : length (items ++ item ∷ []) ≡ length items + 1 = length-append items (item ∷ []) in omega (arith, long, room);
}

-- a store that stands
pub stored_fine : (l : Limits) (node : Node) (store : Store) → NodeFine l node → FineStore l.nodes l.time store → length node.records + 1 ≤ l.records → NodeFine l (stored node store)
stored_fine l node (stores.Record item) ok new room =
    (ok.0, ok.1, with_item l.nodes l.time node.records node.doubt item ok.2 new, with_count l.rollbacks l.records node.clock node.rollback node.records item ok.3 room)
stored_fine l node (stores.Checkpoint at) ok new room = ok

-- a node that goes down
pub down_fine : (l : Limits) (node : Node) → NodeFine l node → NodeFine l (down node)
down_fine l node ok = (
  closed_times l.time 0 [] (omega arith) (λ entry there. absurd there),
  record { number_is = ok.1.number_is; known = ok.1.known; voted = tt; config_fine = ok.1.first_fine; first_fine = ok.1.first_fine },
  ok.2,
  ok.3,
)

-- a store that fails
pub doubt_fine : (l : Limits) (node : Node) (store : Store) → NodeFine l node → FineStore l.nodes l.time store → NodeFine l (in_doubt node store)
doubt_fine l node store ok new =
    let fallen : NodeFine l (down node) = down_fine l node ok in
    (fallen.0, fallen.1, record { each = ok.2.each; doubted = new }, fallen.3)

-- what the records give
pub record FineKept (nodes time : ℕ) (found : Kept) : Type 0 where
  pub voted : IfSome found.vote.candidate (λ candidate. candidate < nodes)
  pub config : IfSome found.config (IsLawfulConfig nodes)
  pub timely : AreTimely time found.entries

kept_with : (nodes time : ℕ) (found : Kept) (item : Record) → FineKept nodes time found → FineRecord nodes time item → FineKept nodes time (with_record found item)
kept_with nodes time found (records.Vote vote) fine new = record { voted = new; config = fine.config; timely = fine.timely }
kept_with nodes time found (records.Config config) fine new = record { voted = fine.voted; config = new; timely = fine.timely }
kept_with nodes time found (records.Entries list point) fine new = record {
  voted = fine.voted;
  config = fine.config;
  timely = λ entry there. elim (in_entries entry found.entries list there) [ inl before ↦ fine.timely entry before | inr added ↦ new entry added ];
}
kept_with nodes time found (records.Cut at) fine new = record { voted = fine.voted; config = fine.config; timely = filter_timely time _ found.entries fine.timely }
kept_with nodes time found (records.Form form) fine new = record { voted = fine.voted; config = fine.config; timely = fine.timely }

kept_from : (nodes time : ℕ) (found : Kept) (items : List Record) → FineKept nodes time found → ((item : Record) → In item items → FineRecord nodes time item)
    → FineKept nodes time (fold with_record found items)
kept_from nodes time found [] fine each = fine
kept_from nodes time found (item ∷ items) fine each =
    kept_from nodes time (with_record found item) items (kept_with nodes time found item fine (each item (inl refl))) (λ other there. each other (inr there))

pub kept_fine : (nodes time : ℕ) (items : List Record) (doubt : Option Store) → HasDisks nodes time items doubt → FineKept nodes time (kept items)
kept_fine nodes time items doubt has = kept_from nodes time nothing_kept items (record { voted = tt; config = tt; timely = λ entry there. absurd there }) has.each

pub config_of_fine : (nodes : ℕ) (found : Option Config) (first : Config) → IfSome found (IsLawfulConfig nodes) → IsLawfulConfig nodes first → IsLawfulConfig nodes (unwrap_or found first)
config_of_fine nodes None first has fine = fine
config_of_fine nodes (Some config) first has fine = has

-- ---- a message that the node sends

pub says : (l : Limits) (answer : Reply) (node : Node) (to : ℕ) (body : Body) → NodeFine l node → to < l.nodes → IfSome (config_carried body) (IsLawfulConfig l.nodes)
    → AreTimely l.time (entries_carried body) → FineOutcome l (sending answer node to body)
says l answer node to body ok known config entries = record {
  node = ok;
  sent = λ message there. elim there [
    | inl same ↦ subst (λ m. FineMessage l.nodes l.time m) same said
    | inr none ↦ absurd none
  ];
  few = omega arith;
}
  where
    said : FineMessage l.nodes l.time (message_to node to body)
    said = record {
      sender = let same : node.number ≡ l.place = ok.1.number_is in let less : l.place < l.nodes = ok.1.known in omega (arith, same, less);
      receiver = known;
      config = config;
      entries = entries;
    }
