-- What each row leaves: of each entry that the node then has this is true, or the row wrote it.
use Rattle.std.proofs.Common.{◌≡◌, inl, inr, ap, sym, subst, refl, ℕ, ◌+◌, Bool, true, false, Option, None, Some, if◌then◌else◌, Result, Ok, Err, List, [], ◌∷◌, map}
use Rattle.std.specs.Prelude.{IfSome}
use Rattle.std.specs.FinMap as maps
use Rattle.bson_doc.specs.Key.{key_of}
use Rattle.bson_doc.specs.Tree.{Tree}
use Rattle.bson_doc.specs.View.{tree_of}
use Rattle.bson_doc.specs.declared.key.IdKey.{IdKey}
use Rattle.doc_update.specs.declared.write.WriteOp.{WriteOp}
use Rattle.doc_update.specs.declared.write.WriteOp.TheVariants as ops
use Rattle.doc_update.specs.declared.write.Prepared.{Prepared}
use Rattle.doc_update.specs.declared.write.Prepared.TheVariants as prepared
use Rattle.rs_optime.specs.declared.optime.OpTime.{OpTime}
use Rattle.rs_optime.specs.Membership.{In}
use Rattle.oplog_entry.specs.declared.entry.Entry.{Entry}
use Rattle.oplog_entry.specs.declared.entry.Op.{Op}
use Rattle.oplog_entry.specs.declared.entry.Op.TheVariants.{Noop, Note}
use Rattle.oplog_entry.specs.declared.entry.Session.{Session}
use Rattle.member_config.specs.declared.config.Config.{Config}
use Rattle.member_config.specs.Config.{in_term}
use Rattle.member_config.specs.Numbers.{lowest}
use Rattle.repl_msg.specs.Kept.{kept}
use Rattle.repl_msg.specs.Parts.{entries_carried}
use Rattle.repl_msg.specs.declared.message.Body.TheVariants as bodies
use Rattle.repl_msg.specs.declared.message.Message.{Message}
use Rattle.repl_msg.specs.declared.record.Record.TheVariants as records
use Rattle.set_model.specs.declared.command.AckConcern.{AckConcern}
use Rattle.set_model.specs.declared.command.Command.{Command}
use Rattle.set_model.specs.declared.command.ReadLevel.{ReadLevel}
use Rattle.set_model.specs.declared.command.Target.{Target}
use Rattle.set_model.specs.declared.reply.Refusal.{Refusal}
use Rattle.set_model.specs.declared.reply.Refusal.TheVariants.{NotPrimary}
use Rattle.set_model.specs.declared.reply.Reply.{Reply}
use Rattle.set_model.specs.declared.reply.Reply.TheVariants as reply
use Rattle.set_model.specs.declared.role.Role.{Role}
use Rattle.set_model.specs.declared.role.Role.TheVariants as roles
use Rattle.set_model.specs.declared.store.Store.{Store}
use Rattle.set_model.specs.declared.store.Store.TheVariants as stores
use Rattle.set_model.specs.declared.writer.Writer.{Writer}
use Rattle.set_model.specs.declared.writer.Writer.TheVariants as writers
use Rattle.set_model.specs.Admitted.{admitted}
use Rattle.set_model.specs.Changes.{logged}
use Rattle.set_model.specs.Concerns.{ack, ack_at, acked, ack_refusal, target_point}
use Rattle.set_model.specs.Disk.{apply, batch_applied, next_batch, flush, is_flushed, unjournaled, next_entries, next_durable, checkpoint, next_stable, restart, recovered, came_back, settled_doubt, has_more}
use Rattle.set_model.specs.Elections.{campaign, candidate, candidate_refusal, dry_run, drain, drained, step_down}
use Rattle.set_model.specs.Fetching.{fetch, fetch_from, sources}
use Rattle.set_model.specs.Node.{Node}
use Rattle.set_model.specs.Outcome.{Outcome, refused, replied, message_to}
use Rattle.set_model.specs.Points.{if_primary, next_optime, same_optime, evaluated}
use Rattle.set_model.specs.Reads.{read, read_key}
use Rattle.set_model.specs.Reconfig.{reconfig, reconfig_refusal}
use Rattle.set_model.specs.Roles.{is_secondary, is_draining, is_leading, is_primary}
use Rattle.set_model.specs.Rollback.{cut_record}
use Rattle.set_model.specs.Rows.{row}
use Rattle.set_model.specs.Stores.{Plan, stored, unless_refused, if_up, vote_record, config_record}
use Rattle.set_model.specs.Votes.{asks, ask_of, other_voters, is_elected}
use Rattle.set_model.specs.Write.{write, written, retry, note}
use Rattle.set_model.specs.Writers.{begin, begun, unless_open, with_open, commit, abort, settled}
use Rattle.set_model.proofs.RetryLemmas.{primary_cases, retry_cases}
use Rattle.safety_laws.proofs.Steps.{primary_leads}
use Rattle.linear_read.proofs.Held.{AreSuch, HasLog, HasDisks, StoreHas, Holds, Writes, OrWritten, Comes, PlanComes, such_more, disks_more, quiet, sends, says, filter_such, take_such, with_such, opened_has, settled_has, aborted_has, lost_has, closed_has, stored_holds, down_holds, doubt_holds, kept_such}

-- ---- plans by cases

module _ (P : Entry → Type 0) (old : Node) where
  pub plan_if : (test : Bool) (one two : Plan) → (test ≡ true → PlanComes P old one) → (test ≡ false → PlanComes P old two) → PlanComes P old (if test then one else two)
  plan_if true one two if_true if_false = if_true refl
  plan_if false one two if_true if_false = if_false refl

  pub end_if : (test : Bool) (one two : Outcome) → (test ≡ true → Comes P old one) → (test ≡ false → Comes P old two) → Comes P old (if test then one else two)
  end_if true one two if_true if_false = if_true refl
  end_if false one two if_true if_false = if_false refl

  pub plan_unless : (node : Node) (why : Option Refusal) (plan : Plan) → Holds P node → PlanComes P old plan → PlanComes P old (unless_refused why node plan)
  plan_unless node (Some why) plan has comes = quiet P old _ node has
  plan_unless node None plan has comes = comes

  pub plan_up : (node : Node) (plan : Plan) → Holds P node → (node.up ≡ true → PlanComes P old plan) → PlanComes P old (if_up node plan)
  plan_up node plan has comes = plan_if node.up plan _ comes (λ is. quiet P old _ node has)

-- ---- rows that write

draining_leads : (role : Role) → is_draining role ≡ true → is_leading role ≡ true
draining_leads roles.Draining is = refl
draining_leads roles.Secondary is = absurd (cc is)
draining_leads roles.Candidate is = absurd (cc is)
draining_leads roles.Primary is = absurd (cc is)

module _ (P : Entry → Type 0) (node : Node) (ok : Holds P node) where
  -- the entry is written, and nothing else is new
  wrote : (answer : Reply) (new : Node) (entry : Entry) → Writes node new entry → HasLog (OrWritten P node new) new.term new.role new.log new.writers → HasDisks P new.records new.doubt
      → Comes P node (replied answer new)
  wrote answer new entry writes log disks = record {
    node = (log, disks_more P (OrWritten P node new) (λ e such. inl such) new.records new.doubt disks);
    sent = λ message there. absurd there;
  }

  logged_comes : (answer : Reply) (op : Op) (session : Option Session) → node.up ≡ true → is_primary node.role ≡ true → Comes P node (replied answer (logged node op session))
  logged_comes answer op session up primary = wrote answer new entry writes
      (record { such = with_such (OrWritten P node new) node.log entry (such_more P (OrWritten P node new) (λ e such. inl such) node.log ok.0.such) (inr writes); slots = ok.0.slots }) ok.1
    where
      new : Node
      new = logged node op session

      entry : Entry
      entry = record { optime = next_optime node; op = op; session = session }

      writes : Writes node new entry
      writes =
          record { up = up; leads = primary_leads node.role primary; term = refl; up_still = up; leads_still = primary_leads node.role primary; term_still = refl; more = refl }

  written_comes : (session : Option Session) → node.up ≡ true → is_primary node.role ≡ true → (found : Result Prepared Refusal) → Comes P node (written node session found)
  written_comes session up primary (Err why) = quiet P node _ node ok
  written_comes session up primary (Ok prepared.NoMatch) = quiet P node _ node ok
  written_comes session up primary (Ok prepared.Unchanged) = quiet P node _ node ok
  written_comes session up primary (Ok (prepared.Entry entry after)) = logged_comes (reply.Written (next_optime node)) entry session up primary

  write_comes : (op : WriteOp) → node.up ≡ true → Comes P node (write node op)
  write_comes op up = primary_cases (Comes P node) node _ (quiet P node _ node ok) (λ primary. written_comes None up primary (admitted node op))

  retry_comes : (session : Session) (op : WriteOp) → node.up ≡ true → Comes P node (retry node session op)
  retry_comes session op up = retry_cases (Comes P node) node session op (λ why. quiet P node _ node ok) (λ last is same. quiet P node _ node ok)
      (λ primary past. written_comes (Some session) up primary (admitted node op))

  note_comes : node.up ≡ true → Comes P node (note node)
  note_comes up = primary_cases (Comes P node) node _ (quiet P node _ node ok) (λ primary. logged_comes (reply.Written (next_optime node)) Note None up primary)

  begin_comes : (writer : ℕ) (op : WriteOp) → Comes P node (begin node writer op)
  begin_comes writer op = go node.role refl (maps.get node.writers writer)
    where
      effect : node.role ≡ roles.Primary → (found : Result Prepared Refusal) → Comes P node (begun node writer found)
      effect is (Err why) = quiet P node _ node ok
      effect is (Ok prepared.NoMatch) = quiet P node _ node ok
      effect is (Ok prepared.Unchanged) = quiet P node _ node ok
      effect is (Ok (prepared.Entry entry after)) = quiet P node _ _ (opened_has P node.term node.role node.log node.writers writer (next_optime node) entry ok.0 is refl, ok.1)

      go : (role : Role) → node.role ≡ role → (found : Option Writer) → Comes P node (if_primary role (unless_open node found (begun node writer (admitted node op))) (refused NotPrimary node))
      go roles.Primary is (Some (writers.Open at entry)) = quiet P node _ node ok
      go roles.Primary is (Some (writers.Done at)) = effect is (admitted node op)
      go roles.Primary is (Some (writers.Lost term)) = effect is (admitted node op)
      go roles.Primary is None = effect is (admitted node op)
      go roles.Secondary is found = quiet P node _ node ok
      go roles.Candidate is found = quiet P node _ node ok
      go roles.Draining is found = quiet P node _ node ok

  open_comes : (found : Option Writer) (ends : OpTime → Op → Outcome) → ((at : OpTime) (op : Op) → found ≡ Some (writers.Open at op) → Comes P node (ends at op)) → Comes P node (with_open node found ends)
  open_comes (Some (writers.Open at op)) ends comes = comes at op refl
  open_comes (Some (writers.Lost term)) ends comes = quiet P node _ node ok
  open_comes (Some (writers.Done at)) ends comes = quiet P node _ node ok
  open_comes None ends comes = quiet P node _ node ok

  settled_comes : (writer : ℕ) (at : OpTime) (op : Op) → node.up ≡ true → (node.role ≡ roles.Primary) × (at.term ≡ node.term) → Comes P node (replied (reply.Committed at) (settled node writer at op))
  settled_comes writer at op up own = wrote (reply.Committed at) new entry writes
      (settled_has (OrWritten P node new) node.term node.role node.log node.writers writer at entry
      (record { such = such_more P (OrWritten P node new) (λ e such. inl such) node.log ok.0.such; slots = ok.0.slots }) (inr writes)) ok.1
    where
      new : Node
      new = settled node writer at op

      entry : Entry
      entry = record { optime = at; op = op; session = None }

      writes : Writes node new entry
      writes =
          record { up = up; leads = ap is_leading own.0; term = sym own.1; up_still = up; leads_still = ap is_leading own.0; term_still = sym own.1; more = refl }

  commit_comes : (writer : ℕ) → node.up ≡ true → Comes P node (commit node writer)
  commit_comes writer up = open_comes (maps.get node.writers writer) _ (λ at op is. settled_comes writer at op up (ok.0.slots writer at op is))

  abort_comes : (writer : ℕ) → Comes P node (abort node writer)
  abort_comes writer = open_comes (maps.get node.writers writer) _ (λ at op is. quiet P node _ _ (aborted_has P node.term node.role node.log node.writers writer ok.0, ok.1))

  drain_comes : node.up ≡ true → PlanComes P node (drain node)
  drain_comes up = plan_if P node (is_draining node.role) _ _
      (λ is. (
        doubt_holds P node (config_record (in_term node.config node.term)) ok tt,
        wrote (reply.Primary node.term (next_optime node)) new entry (writes is)
            (record {
              such = with_such (OrWritten P node new) node.log entry (such_more P (OrWritten P node new) (λ e such. inl such) node.log ok.0.such) (inr (writes is));
              slots = λ number at op there. (refl, (ok.0.slots number at op there).1);
            })
            (stored_holds P node (config_record (in_term node.config node.term)) ok tt).1,
      ))
      (λ is. quiet P node _ node ok)
    where
      new : Node
      new = evaluated (logged (drained (stored node (config_record (in_term node.config node.term)))) Noop None)

      entry : Entry
      entry = record { optime = next_optime node; op = Noop; session = None }

      writes : is_draining node.role ≡ true → Writes node new entry
      writes is = record { up = up; leads = draining_leads node.role is; term = refl; up_still = up; leads_still = refl; term_still = refl; more = refl }

-- ---- rows that write nothing

-- who is asked for a vote is told of no entry
asked_such : (P : Entry → Type 0) (node : Node) (dry : Bool) (to : List ℕ) (message : Message)
    → In message (map (λ voter. message_to node voter (bodies.VoteAsk (ask_of node dry))) to) → AreSuch P (entries_carried message.body)
asked_such P node dry [] message there = absurd there
asked_such P node dry (voter ∷ to) message (inl same) = subst (λ (m : Message). AreSuch P (entries_carried m.body)) same (λ entry none. absurd none)
asked_such P node dry (voter ∷ to) message (inr more) = asked_such P node dry to message more

module _ (P : Entry → Type 0) (old node : Node) (ok : Holds P node) where
  ack_comes : (target : Target) (concern : AckConcern) → Comes P old (ack node target concern)
  ack_comes target concern = go (target_point node target)
    where
      met : (at : OpTime) (why : Option Refusal) → Comes P old (acked node at why)
      met at (Some why) = quiet P old _ node ok
      met at None = quiet P old _ node ok

      go : (found : Result OpTime Refusal) → Comes P old (ack_at node concern found)
      go (Err why) = quiet P old _ node ok
      go (Ok at) = met at (ack_refusal node at concern)

  read_comes : (level : ReadLevel) (collection : List ℕ) (id : Tree) → Comes P old (read node level collection id)
  read_comes level collection id = go (key_of id)
    where
      go : (key : Option IdKey) → Comes P old (read_key node level collection key)
      go None = quiet P old _ node ok
      go (Some key) = quiet P old _ node ok

  fetch_comes : (next : ℕ) → Comes P old (fetch next node)
  fetch_comes next = go (lowest (sources node))
    where
      go : (source : Option ℕ) → Comes P old (fetch_from next node source)
      go None = quiet P old _ node ok
      go (Some source) = says P old _ node source (bodies.Fetch _) ok (λ entry none. absurd none)

  campaign_comes : (next : ℕ) → PlanComes P old (campaign next node)
  campaign_comes next = plan_unless P old node (candidate_refusal node) _ ok (
    doubt_holds P node (vote_record (node.term + 1) (Some node.number)) ok tt,
    end_if P old (is_elected asking) _ _
        (λ is. sends P old _ _ (asks asking false) (lost_has P _ roles.Draining node.log node.writers ok.0.such, asking_holds.1) (asked_such P asking false (other_voters asking)))
        (λ is. sends P old _ asking (asks asking false) asking_holds (asked_such P asking false (other_voters asking))),
  )
    where
      asking : Node
      asking = candidate (stored node (vote_record (node.term + 1) (Some node.number)))

      asking_holds : Holds P asking
      asking_holds = (lost_has P _ roles.Candidate node.log node.writers ok.0.such, (stored_holds P node (vote_record (node.term + 1) (Some node.number)) ok tt).1)

  dry_run_comes : (next : ℕ) → PlanComes P old (dry_run next node)
  dry_run_comes next = plan_unless P old node (candidate_refusal node) _ ok (sends P old _ _ (asks node true) ok (asked_such P node true (other_voters node)))

  step_down_comes : Comes P old (step_down node)
  step_down_comes = end_if P old (is_secondary node.role) _ _ (λ is. quiet P old _ node ok)
      (λ is. quiet P old _ _ (lost_has P node.term roles.Secondary node.log node.writers ok.0.such, ok.1))

  apply_comes : Comes P old (apply node)
  apply_comes = end_if P old (is_primary node.role) _ _ (λ is. quiet P old _ node ok) (λ is. go (next_batch node))
    where
      go : (batch : List Entry) → Comes P old (batch_applied node batch)
      go [] = quiet P old _ node ok
      go (entry ∷ entries) = quiet P old _ _ ok

  flush_comes : PlanComes P old (flush node)
  flush_comes = plan_if P old (is_flushed node) _ _ (λ is. quiet P old _ node ok)
      (λ is. (doubt_holds P node item ok entries, quiet P old _ _ (stored_holds P node item ok entries)))
    where
      item : Store
      item = stores.Record (records.Entries (next_entries node) (next_durable node))

      entries : StoreHas P item
      entries = take_such P 2000 (unjournaled node) (filter_such P _ node.log ok.0.such)

  checkpoint_comes : PlanComes P old (checkpoint node)
  checkpoint_comes = plan_if P old (same_optime (next_stable node) node.stable) _ _ (λ is. quiet P old _ node ok)
      (λ is. (doubt_holds P node (stores.Checkpoint (next_stable node)) ok tt, quiet P old _ _ ok))

  reconfig_comes : (nodes : ℕ) (config : Config) → PlanComes P old (reconfig nodes node config)
  reconfig_comes nodes config = plan_unless P old node (reconfig_refusal nodes node config) _ ok (
    doubt_holds P node (config_record (in_term config node.term)) ok tt,
    quiet P old _ _ (stored_holds P node (config_record (in_term config node.term)) ok tt),
  )

  back_comes : Comes P old (came_back node)
  back_comes = quiet P old _ _ (
    closed_has P _ roles.Secondary (kept node.records).entries (kept_such P node.records node.doubt ok.1),
    record { each = ok.1.each; doubted = tt },
  )

settled_holds : (P : Entry → Type 0) (node : Node) (doubt : Option Store) (there : Bool) → node.doubt ≡ doubt → Holds P node → Holds P (settled_doubt node doubt there)
settled_holds P node (Some (stores.Record item)) true is ok =
    let more : Holds P (stored node (stores.Record item)) = stored_holds P node (stores.Record item) ok (subst (λ d. IfSome d (StoreHas P)) is ok.1.doubted) in
    (ok.0, record { each = more.1.each; doubted = tt })
settled_holds P node (Some (stores.Checkpoint at)) true is ok = (ok.0, record { each = ok.1.each; doubted = tt })
settled_holds P node (Some (stores.Record item)) false is ok = (ok.0, record { each = ok.1.each; doubted = tt })
settled_holds P node (Some (stores.Checkpoint at)) false is ok = (ok.0, record { each = ok.1.each; doubted = tt })
settled_holds P node None there is ok = ok

restart_comes : (P : Entry → Type 0) (node : Node) (there : Bool) → Holds P node → PlanComes P node (restart node there)
restart_comes P node there ok = plan_if P node node.up _ _ (λ is. quiet P node _ node ok) (λ is. (ok, up (settled_doubt node node.doubt there) (settled_holds P node node.doubt there refl ok)))
  where
    up : (mid : Node) → Holds P mid → PlanComes P node (recovered mid)
    up mid has = plan_if P node (has_more (kept mid.records)) _ _
        (λ is. (
          doubt_holds P mid (cut_record (kept mid.records).point) has tt,
          back_comes P node (stored mid (cut_record (kept mid.records).point)) (stored_holds P mid (cut_record (kept mid.records).point) has tt),
        ))
        (λ is. back_comes P node mid has)

-- ---- each command

pub row_comes : (P : Entry → Type 0) (nodes next : ℕ) (there : Bool) (node : Node) (command : Command) → Holds P node → PlanComes P node (row nodes next there node command)
row_comes P nodes next there node (Command.Campaign number) ok = plan_up P node node _ ok (λ up. campaign_comes P node node ok next)
row_comes P nodes next there node (Command.Drain number) ok = plan_up P node node _ ok (λ up. drain_comes P node ok up)
row_comes P nodes next there node (Command.Insert number collection document) ok = plan_up P node node _ ok (λ up. write_comes P node ok (ops.Insert collection document) up)
row_comes P nodes next there node (Command.Replace number collection id document) ok = plan_up P node node _ ok (λ up. write_comes P node ok (ops.Replace collection id document) up)
row_comes P nodes next there node (Command.Update number collection id operators) ok = plan_up P node node _ ok (λ up. write_comes P node ok (ops.Update collection id operators) up)
row_comes P nodes next there node (Command.Delete number collection id) ok = plan_up P node node _ ok (λ up. write_comes P node ok (ops.Delete collection id) up)
row_comes P nodes next there node (Command.Retry number session op) ok = plan_up P node node _ ok (λ up. retry_comes P node ok session op up)
row_comes P nodes next there node (Command.Note number) ok = plan_up P node node _ ok (λ up. note_comes P node ok up)
row_comes P nodes next there node (Command.Begin number writer op) ok = plan_up P node node _ ok (λ up. begin_comes P node ok writer op)
row_comes P nodes next there node (Command.Commit number writer) ok = plan_up P node node _ ok (λ up. commit_comes P node ok writer up)
row_comes P nodes next there node (Command.Abort number writer) ok = plan_up P node node _ ok (λ up. abort_comes P node ok writer)
row_comes P nodes next there node (Command.Ack number target concern) ok = plan_up P node node _ ok (λ up. ack_comes P node node ok target concern)
row_comes P nodes next there node (Command.Read number level collection id) ok = plan_up P node node _ ok (λ up. read_comes P node node ok level collection (tree_of id))
row_comes P nodes next there node (Command.Dump number level) ok = plan_up P node node _ ok (λ up. quiet P node _ node ok)
row_comes P nodes next there node (Command.Log number) ok = plan_up P node node _ ok (λ up. quiet P node _ node ok)
row_comes P nodes next there node (Command.State number) ok = plan_up P node node _ ok (λ up. quiet P node _ node ok)
row_comes P nodes next there node (Command.Rolled number) ok = plan_up P node node _ ok (λ up. quiet P node _ node ok)
row_comes P nodes next there node (Command.DryRun number) ok = plan_up P node node _ ok (λ up. dry_run_comes P node node ok next)
row_comes P nodes next there node (Command.StepDown number) ok = plan_up P node node _ ok (λ up. step_down_comes P node node ok)
row_comes P nodes next there node (Command.Heartbeat number to) ok = plan_up P node node _ ok (λ up. says P node _ node to (bodies.Heartbeat _) ok (λ entry none. absurd none))
row_comes P nodes next there node (Command.Report number to) ok = plan_up P node node _ ok (λ up. says P node _ node to (bodies.Report _ _) ok (λ entry none. absurd none))
row_comes P nodes next there node (Command.Common number to) ok = plan_up P node node _ ok (λ up. says P node _ node to (bodies.CommonAsk _) ok (λ entry none. absurd none))
row_comes P nodes next there node (Command.Fetch number) ok = plan_up P node node _ ok (λ up. fetch_comes P node node ok next)
row_comes P nodes next there node (Command.Deliver message) ok = quiet P node _ node ok
row_comes P nodes next there node (Command.DeliverLatest from to) ok = quiet P node _ node ok
row_comes P nodes next there node (Command.Apply number workers) ok = plan_up P node node _ ok (λ up. apply_comes P node node ok)
row_comes P nodes next there node (Command.Flush number) ok = plan_up P node node _ ok (λ up. flush_comes P node node ok)
row_comes P nodes next there node (Command.Checkpoint number) ok = plan_up P node node _ ok (λ up. checkpoint_comes P node node ok)
row_comes P nodes next there node (Command.Reconfig number config) ok = plan_up P node node _ ok (λ up. reconfig_comes P node node ok nodes config)
row_comes P nodes next there node (Command.Crash number pick) ok = plan_up P node node _ ok (λ up. quiet P node _ _ (down_holds P node ok))
row_comes P nodes next there node (Command.Restart number) ok = restart_comes P node there ok
row_comes P nodes next there node (Command.DiskFail number disk call pick) ok = quiet P node _ node ok
row_comes P nodes next there node (Command.Clock number seconds) ok = quiet P node _ _ ok
