-- Each row keeps a node's numbers within limits that leave it room, and its configurations lawful.
use Rattle.std.proofs.Common.{◌≡◌, ◌≤◌, ◌<◌, ◌+◌, arith, inl, inr, subst, refl, ℕ, Bool, true, false, not, ◌&&◌, ◌==◌, nat_lt, ltb-true, filter, length, map, Option, None, Some, if◌then◌else◌, Result, Ok, Err, List, [], ◌∷◌, ◌++◌}
use Rattle.std.proofs.lemmas.Bool.{and_parts}
use Rattle.std.proofs.lemmas.List.{length-append, length-map}
use Rattle.std.specs.Prelude.{IfSome}
use Rattle.std.specs.FinMap as maps
use Rattle.bson_doc.specs.Key.{key_of}
use Rattle.bson_doc.specs.Tree.{Tree}
use Rattle.bson_doc.specs.View.{tree_of}
use Rattle.bson_doc.specs.declared.key.IdKey.{IdKey}
use Rattle.doc_update.specs.declared.write.WriteOp.{WriteOp}
use Rattle.doc_update.specs.declared.write.WriteOp.TheVariants as ops
use Rattle.doc_update.specs.declared.write.Prepared.{Prepared}
use Rattle.doc_update.specs.declared.write.Prepared.TheVariants as prepared
use Rattle.rs_optime.specs.Time.{timestamp_after}
use Rattle.rs_optime.specs.declared.optime.OpTime.{OpTime}
use Rattle.rs_optime.specs.Membership.{In}
use Rattle.rs_optime.proofs.MembershipLemmas.{in_filter, length-passed}
use Rattle.oplog_entry.specs.Visible.{last_of}
use Rattle.oplog_entry.specs.declared.entry.Entry.{Entry}
use Rattle.oplog_entry.specs.declared.entry.Op.{Op}
use Rattle.oplog_entry.specs.declared.entry.Session.{Session}
use Rattle.oplog_entry.specs.declared.entry.Op.TheVariants.{Noop, Note}
use Rattle.member_config.specs.declared.config.Config.{Config}
use Rattle.member_config.specs.Config.{in_term}
use Rattle.member_config.specs.Numbers.{lowest}
use Rattle.member_config.specs.Rule.{rule}
use Rattle.member_config.specs.Voters.{numbers, voters}
use Rattle.member_config.proofs.NumberLemmas.{length-in_order}
use Rattle.repl_msg.specs.Kept.{kept}
use Rattle.repl_msg.specs.declared.message.Body.TheVariants as bodies
use Rattle.repl_msg.specs.declared.message.Message.{Message}
use Rattle.repl_msg.specs.declared.record.Record.{Record}
use Rattle.repl_msg.specs.declared.record.Record.TheVariants as records
use Rattle.set_model.specs.declared.command.AckConcern.{AckConcern}
use Rattle.set_model.specs.declared.command.Command.{Command}
use Rattle.set_model.specs.declared.command.ReadLevel.{ReadLevel}
use Rattle.set_model.specs.declared.command.Target.{Target}
use Rattle.set_model.specs.declared.reply.Refusal.{Refusal}
use Rattle.set_model.specs.declared.reply.Refusal.TheVariants.{NotPrimary}
use Rattle.set_model.specs.declared.reply.Reply.{Reply}
use Rattle.set_model.specs.declared.reply.Reply.TheVariants as reply
use Rattle.set_model.specs.declared.role.Role.{Role}
use Rattle.set_model.specs.declared.role.Role.TheVariants as roles
use Rattle.set_model.specs.declared.store.Store.{Store}
use Rattle.set_model.specs.declared.store.Store.TheVariants as stores
use Rattle.set_model.specs.declared.writer.Writer.{Writer}
use Rattle.set_model.specs.declared.writer.Writer.TheVariants as writers
use Rattle.set_model.specs.Admitted.{admitted}
use Rattle.set_model.specs.Concerns.{ack, ack_at, acked, ack_refusal, target_point}
use Rattle.set_model.specs.Disk.{apply, batch_applied, next_batch, flush, is_flushed, unjournaled, next_entries, next_durable, checkpoint, next_stable, crash, restart, recovered, came_back, settled_doubt, has_more}
use Rattle.set_model.specs.Elections.{campaign, candidate, candidate_refusal, dry_run, drain, step_down}
use Rattle.set_model.specs.Fetching.{fetch, fetch_from, sources}
use Rattle.set_model.specs.Limits.{is_for}
use Rattle.set_model.specs.Node.{Node}
use Rattle.set_model.specs.Outcome.{Outcome, refused, replied, message_to}
use Rattle.set_model.specs.Points.{if_primary, next_optime, same_optime}
use Rattle.set_model.specs.Reads.{read, read_key}
use Rattle.set_model.specs.Reconfig.{reconfig, reconfig_refusal, change_refusal, unknown_member, unless_unknown, unless_broken}
use Rattle.set_model.specs.Roles.{is_secondary, is_draining, is_primary}
use Rattle.set_model.specs.Rollback.{cut_record}
use Rattle.set_model.specs.Rows.{row}
use Rattle.set_model.specs.Stores.{Plan, stored, unless_refused, if_up, vote_record, config_record}
use Rattle.set_model.specs.Votes.{asks, ask_of, other_voters, is_elected}
use Rattle.set_model.specs.Changes.{logged}
use Rattle.set_model.specs.Write.{write, written, retry, note}
use Rattle.set_model.proofs.RetryLemmas.{primary_cases, retry_cases}
use Rattle.set_model.specs.Writers.{begin, begun, unless_open, with_open, commit, abort}
use Rattle.safety_laws.specs.Bounds.{IsLawfulConfig}
use Rattle.safety_laws.proofs.Reconfigs.{none_broken}
use Rattle.safety_laws.proofs.SmallNodes.{Limits, FineStore, FineRecord, NodeFine, FineMessage, FineOutcome, FinePlan, FineKept, quiet, says, last_timely, filter_timely, take_timely, logged_times, opened_times, settled_times, aborted_times, lost_times, closed_times, in_term_fine, member_known, voter_known, few_voters, in_ordered, lowest_in, stored_fine, down_fine, doubt_fine, kept_fine, config_of_fine}
use Rattle.safety_laws.proofs.Voters.{unless_some}

-- ---- plans by cases

pub plan_if : (l : Limits) (test : Bool) (one two : Plan) → (test ≡ true → FinePlan l one) → (test ≡ false → FinePlan l two) → FinePlan l (if test then one else two)
plan_if l true one two if_true if_false = if_true refl
plan_if l false one two if_true if_false = if_false refl

pub end_if : (l : Limits) (test : Bool) (one two : Outcome) → (test ≡ true → FineOutcome l one) → (test ≡ false → FineOutcome l two) → FineOutcome l (if test then one else two)
end_if l true one two if_true if_false = if_true refl
end_if l false one two if_true if_false = if_false refl

pub plan_unless : (l : Limits) (node : Node) (why : Option Refusal) (plan : Plan) → NodeFine l node → (why ≡ None → FinePlan l plan) → FinePlan l (unless_refused why node plan)
plan_unless l node (Some why) plan ok fine = quiet l _ node ok
plan_unless l node None plan ok fine = fine refl

pub plan_up : (l : Limits) (node : Node) (plan : Plan) → NodeFine l node → FinePlan l plan → FinePlan l (if_up node plan)
plan_up l node plan ok fine = plan_if l node.up plan _ (λ is. fine) (λ is. quiet l _ node ok)

-- ---- room

-- what one event may bring to a node: a timestamp, a rollback id, two records
pub record HasRoom (l : Limits) (clock seen rollback : ℕ) (items : List Record) : Type 0 where
  pub next : timestamp_after clock seen ≤ l.time
  pub rollbacks : rollback + 1 ≤ l.rollbacks
  pub records : length items + 2 ≤ l.records

abbrev pub RoomFor : Limits → Node → Type 0
RoomFor l node = HasRoom l node.clock node.seen node.rollback node.records

one_more : (l : Limits) (node : Node) → RoomFor l node → length node.records + 1 ≤ l.records
one_more l node room = let two : length node.records + 2 ≤ l.records = room.records in omega (arith, two)

pub number_known : (l : Limits) (node : Node) → NodeFine l node → node.number < l.nodes
number_known l node ok = let same : node.number ≡ l.place = ok.1.number_is in let less : l.place < l.nodes = ok.1.known in omega (arith, same, less)

-- ---- rows

module _ (l : Limits) (node : Node) (ok : NodeFine l node) where
  logged_fine : (answer : Reply) (op : Op) (session : Option Session) → RoomFor l node → FineOutcome l (replied answer (logged node op session))
  logged_fine answer op session room =
      quiet l _ _ (logged_times l.time node.seen (next_optime node).ts node.log node.writers (record { optime = next_optime node; op = op; session = session }) ok.0 room.next room.next, ok.1, ok.2, ok.3)

  written_fine : (session : Option Session) → RoomFor l node → (found : Result Prepared Refusal) → FineOutcome l (written node session found)
  written_fine session room (Err why) = quiet l _ node ok
  written_fine session room (Ok prepared.NoMatch) = quiet l _ node ok
  written_fine session room (Ok prepared.Unchanged) = quiet l _ node ok
  written_fine session room (Ok (prepared.Entry entry after)) = logged_fine (reply.Written (next_optime node)) entry session room

  write_fine : (op : WriteOp) → RoomFor l node → FineOutcome l (write node op)
  write_fine op room = primary_cases (FineOutcome l) node _ (quiet l _ node ok) (λ primary. written_fine None room (admitted node op))

  retry_fine : (session : Session) (op : WriteOp) → RoomFor l node → FineOutcome l (retry node session op)
  retry_fine session op room = retry_cases (FineOutcome l) node session op (λ why. quiet l _ node ok) (λ last is same. quiet l _ node ok)
      (λ primary past. written_fine (Some session) room (admitted node op))

  note_fine : RoomFor l node → FineOutcome l (note node)
  note_fine room = primary_cases (FineOutcome l) node _ (quiet l _ node ok) (λ primary. logged_fine (reply.Written (next_optime node)) Note None room)

  begin_fine : (writer : ℕ) (op : WriteOp) → RoomFor l node → FineOutcome l (begin node writer op)
  begin_fine writer op room = go node.role (maps.get node.writers writer)
    where
      effect : (found : Result Prepared Refusal) → FineOutcome l (begun node writer found)
      effect (Err why) = quiet l _ node ok
      effect (Ok prepared.NoMatch) = quiet l _ node ok
      effect (Ok prepared.Unchanged) = quiet l _ node ok
      effect (Ok (prepared.Entry entry after)) =
          quiet l _ _ (opened_times l.time node.seen (next_optime node).ts node.log node.writers writer (next_optime node) entry ok.0 room.next room.next, ok.1, ok.2, ok.3)

      go : (role : Role) (found : Option Writer) → FineOutcome l (if_primary role (unless_open node found (begun node writer (admitted node op))) (refused NotPrimary node))
      go roles.Primary (Some (writers.Open at entry)) = quiet l _ node ok
      go roles.Primary (Some (writers.Done at)) = effect (admitted node op)
      go roles.Primary (Some (writers.Lost term)) = effect (admitted node op)
      go roles.Primary None = effect (admitted node op)
      go roles.Secondary found = quiet l _ node ok
      go roles.Candidate found = quiet l _ node ok
      go roles.Draining found = quiet l _ node ok

  open_fine : (found : Option Writer) (ends : OpTime → Op → Outcome) → ((at : OpTime) (op : Op) → found ≡ Some (writers.Open at op) → FineOutcome l (ends at op)) → FineOutcome l (with_open node found ends)
  open_fine (Some (writers.Open at op)) ends fine = fine at op refl
  open_fine (Some (writers.Lost term)) ends fine = quiet l _ node ok
  open_fine (Some (writers.Done at)) ends fine = quiet l _ node ok
  open_fine None ends fine = quiet l _ node ok

  commit_fine : (writer : ℕ) → FineOutcome l (commit node writer)
  commit_fine writer = open_fine (maps.get node.writers writer) _
      (λ at op is. quiet l _ _ (settled_times l.time node.seen node.log node.writers writer at op ok.0 (ok.0.slots writer at op is), ok.1, ok.2, ok.3))

  abort_fine : (writer : ℕ) → FineOutcome l (abort node writer)
  abort_fine writer = open_fine (maps.get node.writers writer) _ (λ at op is. quiet l _ _ (aborted_times l.time node.seen node.log node.writers writer ok.0, ok.1, ok.2, ok.3))

  ack_fine : (target : Target) (concern : AckConcern) → FineOutcome l (ack node target concern)
  ack_fine target concern = go (target_point node target)
    where
      met : (at : OpTime) (why : Option Refusal) → FineOutcome l (acked node at why)
      met at (Some why) = quiet l _ node ok
      met at None = quiet l _ node ok

      go : (found : Result OpTime Refusal) → FineOutcome l (ack_at node concern found)
      go (Err why) = quiet l _ node ok
      go (Ok at) = met at (ack_refusal node at concern)

  read_fine : (level : ReadLevel) (collection : List ℕ) (id : Tree) → FineOutcome l (read node level collection id)
  read_fine level collection id = go (key_of id)
    where
      go : (key : Option IdKey) → FineOutcome l (read_key node level collection key)
      go None = quiet l _ node ok
      go (Some key) = quiet l _ node ok

  fetch_fine : (next : ℕ) → FineOutcome l (fetch next node)
  fetch_fine next = go (lowest (sources node)) refl
    where
      go : (source : Option ℕ) → lowest (sources node) ≡ source → FineOutcome l (fetch_from next node source)
      go None is = quiet l _ node ok
      go (Some source) is = says l _ node source (bodies.Fetch _) ok
          (member_known l.nodes node.config ok.1.config_fine source (in_filter _ (numbers node.config) source (lowest_in (sources node) source is)).0) tt (λ entry there. absurd there)

-- ---- elections

asked_in : (nodes time : ℕ) (node : Node) (dry : Bool) (to : List ℕ) → node.number < nodes → ((voter : ℕ) → In voter to → voter < nodes)
    → (message : Message) → In message (map (λ voter. message_to node voter (bodies.VoteAsk (ask_of node dry))) to) → FineMessage nodes time message
asked_in nodes time node dry [] own known message there = absurd there
asked_in nodes time node dry (voter ∷ to) own known message (inl same) =
    subst (λ m. FineMessage nodes time m) same (record { sender = own; receiver = known voter (inl refl); config = tt; entries = λ entry there. absurd there })
asked_in nodes time node dry (voter ∷ to) own known message (inr more) = asked_in nodes time node dry to own (λ other there. known other (inr there)) message more

module _ (l : Limits) (node : Node) (ok : NodeFine l node) where
  asks_fine : (dry : Bool) (message : Message) → In message (asks node dry) → FineMessage l.nodes l.time message
  asks_fine dry message there = asked_in l.nodes l.time node dry (other_voters node) (number_known l node ok)
      (λ voter among. voter_known l.nodes node.config ok.1.config_fine voter (in_filter _ (voters node.config) voter (in_ordered (filter (λ v. not (v == node.number)) (voters node.config)) voter among)).0)
      message there

  asks_few : (dry : Bool) → length (asks node dry) ≤ 7
  asks_few dry =
      let mapped : length (asks node dry) ≡ length (other_voters node) = length-map (other_voters node) _ in
      let ordered : length (other_voters node) ≡ length (filter (λ v. not (v == node.number)) (voters node.config)) = length-in_order (filter (λ v. not (v == node.number)) (voters node.config)) in
      let passed : length (filter (λ v. not (v == node.number)) (voters node.config)) ≤ length (voters node.config) = length-passed (λ v. not (v == node.number)) (voters node.config) in
      let few : length (voters node.config) ≤ 7 = few_voters l.nodes node.config ok.1.config_fine in
      omega (arith, mapped, ordered, passed, few)

module _ (l : Limits) (node : Node) (ok : NodeFine l node) (room : RoomFor l node) where
  campaign_fine : (next : ℕ) → FinePlan l (campaign next node)
  campaign_fine next = plan_unless l node (candidate_refusal node) _ ok (λ none. (
    doubt_fine l node (vote_record (node.term + 1) (Some node.number)) ok own,
    end_if l (is_elected asking) _ _
        (λ is. record { node = asking_fine; sent = asks_fine l asking asking_fine false; few = asks_few l asking asking_fine false })
        (λ is. record { node = asking_fine; sent = asks_fine l asking asking_fine false; few = asks_few l asking asking_fine false }),
  ))
    where
      own : node.number < l.nodes
      own = number_known l node ok

      asking : Node
      asking = candidate (stored node (vote_record (node.term + 1) (Some node.number)))

      asking_fine : NodeFine l asking
      asking_fine =
          let kept_more : NodeFine l (stored node (vote_record (node.term + 1) (Some node.number))) = stored_fine l node (vote_record (node.term + 1) (Some node.number)) ok own (one_more l node room) in (
            lost_times l.time node.seen node.log node.writers ok.0,
            record { number_is = ok.1.number_is; known = ok.1.known; voted = own; config_fine = ok.1.config_fine; first_fine = ok.1.first_fine },
            kept_more.2,
            kept_more.3,
          )

  dry_run_fine : (next : ℕ) → FinePlan l (dry_run next node)
  dry_run_fine next = plan_unless l node (candidate_refusal node) _ ok (λ none. record { node = ok; sent = asks_fine l node ok true; few = asks_few l node ok true })

  drain_fine : FinePlan l (drain node)
  drain_fine = plan_if l (is_draining node.role) _ _
      (λ is. (
        doubt_fine l node (config_record (in_term node.config node.term)) ok config,
        let kept_more : NodeFine l (stored node (config_record (in_term node.config node.term))) = stored_fine l node (config_record (in_term node.config node.term)) ok config (one_more l node room) in
            quiet l _ _ (
              logged_times l.time node.seen (next_optime node).ts node.log node.writers (record { optime = next_optime node; op = Noop; session = None }) ok.0 room.next room.next,
              record { number_is = ok.1.number_is; known = ok.1.known; voted = ok.1.voted; config_fine = config; first_fine = ok.1.first_fine },
              kept_more.2,
              kept_more.3,
            ),
      ))
      (λ is. quiet l _ node ok)
    where
      config : IsLawfulConfig l.nodes (in_term node.config node.term)
      config = in_term_fine l.nodes node.term node.config ok.1.config_fine

  step_down_fine : FineOutcome l (step_down node)
  step_down_fine = end_if l (is_secondary node.role) _ _ (λ is. quiet l _ node ok) (λ is. quiet l _ _ (lost_times l.time node.seen node.log node.writers ok.0, ok.1, ok.2, ok.3))

  -- ---- disks

  apply_fine : FineOutcome l (apply node)
  apply_fine = end_if l (is_primary node.role) _ _ (λ is. quiet l _ node ok) (λ is. go (next_batch node))
    where
      go : (batch : List Entry) → FineOutcome l (batch_applied node batch)
      go [] = quiet l _ node ok
      go (entry ∷ entries) = quiet l _ _ ok

  flush_fine : FinePlan l (flush node)
  flush_fine = plan_if l (is_flushed node) _ _ (λ is. quiet l _ node ok) (λ is. (
    doubt_fine l node item ok entries,
    quiet l _ _ (stored_fine l node item ok entries (one_more l node room)),
  ))
    where
      item : Store
      item = stores.Record (records.Entries (next_entries node) (next_durable node))

      entries : FineStore l.nodes l.time item
      entries = take_timely l.time 2000 (unjournaled node) (filter_timely l.time _ node.log ok.0.timely)

  checkpoint_fine : FinePlan l (checkpoint node)
  checkpoint_fine = plan_if l (same_optime (next_stable node) node.stable) _ _ (λ is. quiet l _ node ok) (λ is. (
    doubt_fine l node (stores.Checkpoint (next_stable node)) ok tt,
    quiet l _ _ ok,
  ))

  crash_fine : FineOutcome l (crash node)
  crash_fine = quiet l _ _ (down_fine l node ok)

  reconfig_fine : (config : Config) → FinePlan l (reconfig l.nodes node config)
  reconfig_fine config = plan_unless l node (reconfig_refusal l.nodes node config) _ ok (λ none.
      let fine : IsLawfulConfig l.nodes (in_term config node.term) = in_term_fine l.nodes node.term config (allowed none) in
      let kept_more : NodeFine l (stored node (config_record (in_term config node.term))) = stored_fine l node (config_record (in_term config node.term)) ok fine (one_more l node room) in (
        doubt_fine l node (config_record (in_term config node.term)) ok fine,
        quiet l _ _ (
          ok.0,
          record { number_is = ok.1.number_is; known = ok.1.known; voted = ok.1.voted; config_fine = fine; first_fine = ok.1.first_fine },
          kept_more.2,
          kept_more.3,
        ),
      ))
    where
      known_none : (found : Option ℕ) (why : Option Refusal) → unless_unknown found why ≡ None → found ≡ None
      known_none (Some number) why none = absurd (cc none)
      known_none None why none = refl

      allowed : reconfig_refusal l.nodes node config ≡ None → IsLawfulConfig l.nodes config
      allowed none =
          let one : (not (is_primary node.role) ≡ false) × (unless_broken (rule config) (unless_unknown (unknown_member l.nodes config) (change_refusal node config)) ≡ None) =
          unless_some (not (is_primary node.role)) NotPrimary _ none in
          let two : (rule config ≡ None) × (unless_unknown (unknown_member l.nodes config) (change_refusal node config) ≡ None) =
          none_broken (rule config) (unless_unknown (unknown_member l.nodes config) (change_refusal node config)) one.1 in
          record { rules = two.0; members = known_none (unknown_member l.nodes config) (change_refusal node config) two.1 }

-- ---- restart

settled_disks : (l : Limits) (node : Node) (doubt : Option Store) (there : Bool) → node.doubt ≡ doubt → NodeFine l node → length node.records + 2 ≤ l.records
    → NodeFine l (settled_doubt node doubt there) × (length (settled_doubt node doubt there).records + 1 ≤ l.records) × ((settled_doubt node doubt there).rollback ≡ node.rollback)
settled_disks l node (Some (stores.Record item)) true is ok room =
    let has : FineRecord l.nodes l.time item = subst (λ d. IfSome d (FineStore l.nodes l.time)) is ok.2.doubted in
    let more : NodeFine l (stored node (stores.Record item)) = stored_fine l node (stores.Record item) ok has (omega (arith, room)) in
    ((more.0, more.1, record { each = more.2.each; doubted = tt }, more.3), long, refl)
  where
    long : length (node.records ++ item ∷ []) + 1 ≤ l.records
    long = let two : length (node.records ++ item ∷ []) ≡ length node.records + 1 = length-append node.records (item ∷ []) in omega (arith, two, room)
settled_disks l node (Some (stores.Checkpoint at)) true is ok room = ((ok.0, ok.1, record { each = ok.2.each; doubted = tt }, ok.3), omega (arith, room), refl)
settled_disks l node (Some (stores.Record item)) false is ok room = ((ok.0, ok.1, record { each = ok.2.each; doubted = tt }, ok.3), omega (arith, room), refl)
settled_disks l node (Some (stores.Checkpoint at)) false is ok room = ((ok.0, ok.1, record { each = ok.2.each; doubted = tt }, ok.3), omega (arith, room), refl)
settled_disks l node None there is ok room = (ok, omega (arith, room), refl)

back_fine : (l : Limits) (node : Node) → NodeFine l node → node.rollback + 1 ≤ l.rollbacks → FineOutcome l (came_back node)
back_fine l node ok room = quiet l _ _ (
  closed_times l.time (last_of (kept node.records).entries).ts (kept node.records).entries (last_timely l.time (kept node.records).entries found.timely) found.timely,
  record {
    number_is = ok.1.number_is;
    known = ok.1.known;
    voted = found.voted;
    config_fine = config_of_fine l.nodes (kept node.records).config node.first found.config ok.1.first_fine;
    first_fine = ok.1.first_fine;
  },
  record { each = ok.2.each; doubted = tt },
  record { clock_most = ok.3.clock_most; rollback_most = room; records_most = ok.3.records_most },
)
  where
    found : FineKept l.nodes l.time (kept node.records)
    found = kept_fine l.nodes l.time node.records node.doubt ok.2

restart_fine : (l : Limits) (node : Node) (there : Bool) → NodeFine l node → RoomFor l node → FinePlan l (restart node there)
restart_fine l node there ok room = plan_if l node.up _ _ (λ is. quiet l _ node ok) (λ is. (ok, up (settled_doubt node node.doubt there) (settled_disks l node node.doubt there refl ok room.records)))
  where
    up : (mid : Node) → NodeFine l mid × (length mid.records + 1 ≤ l.records) × (mid.rollback ≡ node.rollback) → FinePlan l (recovered mid)
    up mid has =
        let same : mid.rollback ≡ node.rollback = has.2 in
        let ids : node.rollback + 1 ≤ l.rollbacks = room.rollbacks in
        let more : mid.rollback + 1 ≤ l.rollbacks = omega (arith, same, ids) in
        plan_if l (has_more (kept mid.records)) _ _
        (λ is. (
          doubt_fine l mid (cut_record (kept mid.records).point) has.0 tt,
          back_fine l (stored mid (cut_record (kept mid.records).point)) (stored_fine l mid (cut_record (kept mid.records).point) has.0 tt has.1) more,
        ))
        (λ is. back_fine l mid has.0 more)

-- ---- each command

-- a command that names another node names one of the set
to_known : (nodes : ℕ) (number to : ℕ) → (nat_lt number nodes && (nat_lt to nodes && true)) ≡ true → to < nodes
to_known nodes number to is = ltb-true to nodes (and_parts (nat_lt to nodes) true (and_parts (nat_lt number nodes) (nat_lt to nodes && true) is).1).0

pub row_fine : (l : Limits) (next : ℕ) (there : Bool) (node : Node) (command : Command) → NodeFine l node → RoomFor l node → is_for l.nodes command ≡ true → FinePlan l (row l.nodes next there node command)
row_fine l next there node (Command.Campaign number) ok room fits = plan_up l node _ ok (campaign_fine l node ok room next)
row_fine l next there node (Command.Drain number) ok room fits = plan_up l node _ ok (drain_fine l node ok room)
row_fine l next there node (Command.Insert number collection document) ok room fits = plan_up l node _ ok (write_fine l node ok (ops.Insert collection document) room)
row_fine l next there node (Command.Replace number collection id document) ok room fits = plan_up l node _ ok (write_fine l node ok (ops.Replace collection id document) room)
row_fine l next there node (Command.Update number collection id operators) ok room fits = plan_up l node _ ok (write_fine l node ok (ops.Update collection id operators) room)
row_fine l next there node (Command.Delete number collection id) ok room fits = plan_up l node _ ok (write_fine l node ok (ops.Delete collection id) room)
row_fine l next there node (Command.Retry number session op) ok room fits = plan_up l node _ ok (retry_fine l node ok session op room)
row_fine l next there node (Command.Note number) ok room fits = plan_up l node _ ok (note_fine l node ok room)
row_fine l next there node (Command.Begin number writer op) ok room fits = plan_up l node _ ok (begin_fine l node ok writer op room)
row_fine l next there node (Command.Commit number writer) ok room fits = plan_up l node _ ok (commit_fine l node ok writer)
row_fine l next there node (Command.Abort number writer) ok room fits = plan_up l node _ ok (abort_fine l node ok writer)
row_fine l next there node (Command.Ack number target concern) ok room fits = plan_up l node _ ok (ack_fine l node ok target concern)
row_fine l next there node (Command.Read number level collection id) ok room fits = plan_up l node _ ok (read_fine l node ok level collection (tree_of id))
row_fine l next there node (Command.Dump number level) ok room fits = plan_up l node _ ok (quiet l _ node ok)
row_fine l next there node (Command.Log number) ok room fits = plan_up l node _ ok (quiet l _ node ok)
row_fine l next there node (Command.State number) ok room fits = plan_up l node _ ok (quiet l _ node ok)
row_fine l next there node (Command.Rolled number) ok room fits = plan_up l node _ ok (quiet l _ node ok)
row_fine l next there node (Command.DryRun number) ok room fits = plan_up l node _ ok (dry_run_fine l node ok room next)
row_fine l next there node (Command.StepDown number) ok room fits = plan_up l node _ ok (step_down_fine l node ok room)
row_fine l next there node (Command.Heartbeat number to) ok room fits =
    plan_up l node _ ok (says l _ node to (bodies.Heartbeat _) ok (to_known l.nodes number to (and_parts _ _ fits).0) ok.1.config_fine (λ entry there. absurd there))
row_fine l next there node (Command.Report number to) ok room fits =
    plan_up l node _ ok (says l _ node to (bodies.Report _ _) ok (to_known l.nodes number to (and_parts _ _ fits).0) tt (λ entry there. absurd there))
row_fine l next there node (Command.Common number to) ok room fits =
    plan_up l node _ ok (says l _ node to (bodies.CommonAsk _) ok (to_known l.nodes number to (and_parts _ _ fits).0) tt (λ entry there. absurd there))
row_fine l next there node (Command.Fetch number) ok room fits = plan_up l node _ ok (fetch_fine l node ok next)
row_fine l next there node (Command.Deliver message) ok room fits = quiet l _ node ok
row_fine l next there node (Command.DeliverLatest from to) ok room fits = quiet l _ node ok
row_fine l next there node (Command.Apply number workers) ok room fits = plan_up l node _ ok (apply_fine l node ok room)
row_fine l next there node (Command.Flush number) ok room fits = plan_up l node _ ok (flush_fine l node ok room)
row_fine l next there node (Command.Checkpoint number) ok room fits = plan_up l node _ ok (checkpoint_fine l node ok room)
row_fine l next there node (Command.Reconfig number config) ok room fits = plan_up l node _ ok (reconfig_fine l node ok room config)
row_fine l next there node (Command.Crash number pick) ok room fits = plan_up l node _ ok (crash_fine l node ok room)
row_fine l next there node (Command.Restart number) ok room fits = restart_fine l node there ok room
row_fine l next there node (Command.DiskFail number disk call pick) ok room fits = quiet l _ node ok
row_fine l next there node (Command.Clock number seconds) ok room fits =
    quiet l _ _ (ok.0, ok.1, ok.2, record { clock_most = ltb-true seconds 2147483648 (and_parts _ _ fits).1; rollback_most = ok.3.rollback_most; records_most = ok.3.records_most })
