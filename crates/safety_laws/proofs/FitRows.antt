-- A node that leads after a row has a fit log, if it had one before.
use Rattle.std.proofs.Common.{◌≡◌, ◌≢◌, ◌<◌, ◌&&◌, inl, inr, ap, sym, subst, refl, arith, ltb-true, ℕ, zero, suc, Bool, true, false, nat_lt, ◌+◌, Option, None, Some, if◌then◌else◌, Result, Ok, Err, List, [], ◌∷◌}
use Rattle.std.proofs.lemmas.Bool.{and_parts, cases_Bool}
use Rattle.std.specs.Prelude.{IfSome, nat_le}
use Rattle.std.specs.FinMap as maps
use Rattle.bson_doc.specs.Key.{key_of}
use Rattle.bson_doc.specs.Tree.{Tree}
use Rattle.bson_doc.specs.View.{tree_of}
use Rattle.bson_doc.specs.declared.key.IdKey.{IdKey}
use Rattle.doc_update.specs.declared.write.WriteOp.{WriteOp}
use Rattle.doc_update.specs.declared.write.WriteOp.TheVariants as ops
use Rattle.doc_update.specs.declared.write.Prepared.{Prepared}
use Rattle.doc_update.specs.declared.write.Prepared.TheVariants as prepared
use Rattle.rs_optime.specs.declared.optime.OpTime.{OpTime}
use Rattle.rs_optime.specs.Membership.{In}
use Rattle.oplog_entry.specs.declared.entry.Entry.{Entry}
use Rattle.oplog_entry.specs.declared.entry.Op.{Op}
use Rattle.oplog_entry.specs.declared.entry.Session.{Session}
use Rattle.oplog_entry.specs.Lawful.{IsSession}
use Rattle.member_config.specs.declared.config.Config.{Config}
use Rattle.member_config.specs.Numbers.{lowest}
use Rattle.repl_msg.specs.Kept.{kept}
use Rattle.set_model.specs.declared.command.AckConcern.{AckConcern}
use Rattle.set_model.specs.declared.command.Command.{Command}
use Rattle.set_model.specs.declared.command.ReadLevel.{ReadLevel}
use Rattle.set_model.specs.declared.command.Target.{Target}
use Rattle.set_model.specs.declared.reply.Refusal.{Refusal}
use Rattle.set_model.specs.declared.reply.Refusal.TheVariants.{NotPrimary}
use Rattle.set_model.specs.declared.role.Role.{Role}
use Rattle.set_model.specs.declared.role.Role.TheVariants as roles
use Rattle.set_model.specs.declared.writer.Writer.{Writer}
use Rattle.set_model.specs.declared.writer.Writer.TheVariants as writers
use Rattle.set_model.specs.Admitted.{admitted}
use Rattle.set_model.specs.Concerns.{ack, ack_at, acked, ack_refusal, target_point}
use Rattle.set_model.specs.Disk.{apply, batch_applied, next_batch, flush, is_flushed, checkpoint, next_stable, restart, recovered, settled_doubt, has_more}
use Rattle.set_model.specs.Elections.{campaign, candidate, candidate_refusal, dry_run, drain, step_down}
use Rattle.set_model.specs.Fetching.{fetch, fetch_from, sources}
use Rattle.set_model.specs.Node.{Node}
use Rattle.set_model.specs.Outcome.{Outcome, refused}
use Rattle.set_model.specs.Points.{if_primary, same_optime, next_optime}
use Rattle.set_model.specs.Reads.{read, read_key}
use Rattle.set_model.specs.Reconfig.{reconfig, reconfig_refusal}
use Rattle.set_model.specs.Roles.{is_secondary, is_draining, is_primary, is_leading}
use Rattle.set_model.specs.Rows.{row}
use Rattle.set_model.specs.Stores.{Plan, finished, storing, done, stored, unless_refused, if_up, vote_record, in_doubt, config_record}
use Rattle.set_model.specs.Votes.{is_elected}
use Rattle.set_model.specs.Changes.{logged}
use Rattle.set_model.specs.Sessions.{GoesUp}
use Rattle.set_model.specs.Write.{write, write_in, written, retry, note}
use Rattle.set_model.proofs.RetryLemmas.{primary_cases, retry_cases}
use Rattle.set_model.proofs.SessionLemmas.{Ascends, ascends_last, ascends_with, past_goes_up, up_to}
use Rattle.safety_laws.proofs.Logged.{next_entry, logged_log}
use Rattle.set_model.specs.Writers.{begin, begun, unless_open, with_open, commit, abort}
use Rattle.oplog_entry.specs.declared.entry.Op.TheVariants.{Noop, Note}
use Rattle.oplog_store.specs.Log.{with_entry}
use Rattle.set_model.specs.Limits.{IsSoundWrite, collection_of, is_collection, is_within, is_within_session, write_of}
use Rattle.member_config.specs.Config.{in_term}
use Rattle.set_model.proofs.EntrySizes.{noop_within, note_within}
use Rattle.safety_laws.proofs.FitNodes.{AreReady, IsAdmitted, IsFit, Standing, admitted_ready, fewer_ready, follower_fit, opened_ready, standing_of, written_ready}
use Rattle.safety_laws.proofs.Rel.{HasLog}
use Rattle.safety_laws.proofs.Slots.{open_with, open_without}
use Rattle.safety_laws.proofs.Steps.{draining_is}
use Rattle.safety_laws.proofs.StoredLogs.{AreStored}

-- ---- an outcome

-- a node that is up and leads is fit
abbrev pub FitsOn : Standing → Type 0
FitsOn standing = standing.up ≡ true → is_leading standing.role ≡ true → IsFit standing

abbrev pub FitOn : Plan → Type 0
FitOn (finished outcome) = FitsOn (standing_of outcome.node)
FitOn (storing broken rest) = FitsOn (standing_of broken) × FitOn rest

pub fit_done : (plan : Plan) (failed : Option ℕ) → FitOn plan → FitsOn (standing_of (done plan failed).node)
fit_done (finished outcome) failed fit = fit
fit_done (storing broken rest) None fit = fit_done rest None fit.1
fit_done (storing broken rest) (Some zero) fit = fit.0
fit_done (storing broken rest) (Some (suc number)) fit = fit_done rest (Some number) fit.1

-- a node that is up is fit
abbrev pub FitNow : Standing → Type 0
FitNow standing = standing.up ≡ true → IsFit standing

-- the node stays as it was
pub same : (standing : Standing) → FitNow standing → FitsOn standing
same standing fit up leads = fit up

pub ended : (standing : Standing) → standing.up ≡ false → FitsOn standing
ended standing down up leads = absurd (cc (up, down))

pub follows : (standing : Standing) → is_leading standing.role ≡ false → FitsOn standing
follows standing none up leads = absurd (cc (leads, none))

-- ---- plans by cases

pub plan_if : (test : Bool) (one two : Plan) → (test ≡ true → FitOn one) → (test ≡ false → FitOn two) → FitOn (if test then one else two)
plan_if true one two if_true if_false = if_true refl
plan_if false one two if_true if_false = if_false refl

pub outcome_if : (test : Bool) (one two : Outcome) → (test ≡ true → FitsOn (standing_of one.node)) → (test ≡ false → FitsOn (standing_of two.node)) → FitsOn (standing_of (if test then one else two).node)
outcome_if true one two if_true if_false = if_true refl
outcome_if false one two if_true if_false = if_false refl

pub plan_unless : (node : Node) (why : Option Refusal) (plan : Plan) → FitNow (standing_of node) → FitOn plan → FitOn (unless_refused why node plan)
plan_unless node (Some why) plan fit goes = same (standing_of node) fit
plan_unless node None plan fit goes = goes

pub plan_up : (node : Node) (plan : Plan) → FitNow (standing_of node) → (node.up ≡ true → FitOn plan) → FitOn (if_up node plan)
plan_up node plan fit goes = plan_if node.up plan _ goes (λ is. same (standing_of node) fit)

-- ---- writes

numbered_session : (session : Session) → is_within_session session ≡ true → IsSession session
numbered_session session within =
    let both : (nat_lt session.id 4294967296 ≡ true) × ((nat_le 1 session.number && nat_lt session.number 2147483648) ≡ true) = and_parts _ _ within in
    let number : session.number < 2147483648 = ltb-true session.number 2147483648 (and_parts (nat_le 1 session.number) (nat_lt session.number 2147483648) both.1).1 in
    record { id = ltb-true session.id 4294967296 both.0; number = omega (arith, number) }

module _ (node : Node) (fit : IsFit (standing_of node)) (log : HasLog node) where
  -- an entry after the log that was ready, of which the numbers of its session go up
  logged_fits : (op : Op) (session : Option Session) → is_primary node.role ≡ true → IsAdmitted node op session
      → ((other : Entry) → In other node.log → GoesUp other (next_entry node op session)) → IsFit (standing_of (logged node op session))
  logged_fits op session primary new above =
      let both : AreStored (with_entry node.log (next_entry node op session)) × AreReady node.term (with_entry node.log (next_entry node op session)) node.writers =
      written_ready node.term node.log node.writers (next_optime node) op session log.rises fit.stored (fit.ready primary) new.0 new.1 in
      record {
        stored = both.0;
        ascends = subst (λ (l : List Entry). Ascends l) (sym (logged_log node op session log)) (ascends_last node.log (next_entry node op session) fit.ascends above);
        ready = λ _. both.1;
      }

  write_in_fits : (session : Option Session) (op : WriteOp) → IsSoundWrite op → is_collection (collection_of op) ≡ true → IfSome session IsSession → is_primary node.role ≡ true
      → ((logged : Op) (other : Entry) → In other node.log → GoesUp other (next_entry node logged session)) → FitsOn (standing_of (write_in node session op).node)
  write_in_fits session op sound name numbered primary above = go (admitted node op) refl
    where
      go : (found : Result Prepared Refusal) → admitted node op ≡ found → FitsOn (standing_of (written node session found).node)
      go (Err why) is = λ up leads. fit
      go (Ok prepared.NoMatch) is = λ up leads. fit
      go (Ok prepared.Unchanged) is = λ up leads. fit
      go (Ok (prepared.Entry op_of after)) is = λ up leads.
          logged_fits op_of session primary (admitted_ready node session op op_of after log fit.stored sound name numbered is) (above op_of)

  write_fits : (op : WriteOp) → IsSoundWrite op → is_collection (collection_of op) ≡ true → FitsOn (standing_of (write node op).node)
  write_fits op sound name = primary_cases (λ outcome. FitsOn (standing_of outcome.node)) node _ (λ up leads. fit)
      (λ primary. write_in_fits None op sound name tt primary (λ logged other there. up_to other (next_entry node logged None) refl))

  retry_fits : (session : Session) (op : WriteOp) → is_within_session session ≡ true → IsSoundWrite op → is_collection (collection_of op) ≡ true → FitsOn (standing_of (retry node session op).node)
  retry_fits session op within sound name = retry_cases (λ outcome. FitsOn (standing_of outcome.node)) node session op
      (λ why up leads. fit)
      (λ last is same up leads. fit)
      (λ primary past. write_in_fits (Some session) op sound name (numbered_session session within) primary
      (λ logged. past_goes_up node.log session (next_entry node logged (Some session)) refl past))

  note_fits : FitsOn (standing_of (note node).node)
  note_fits = primary_cases (λ outcome. FitsOn (standing_of outcome.node)) node _ (λ up leads. fit)
      (λ primary up leads. logged_fits Note None primary
      (record { fit = (tt, note_within (next_optime node), (tt, tt)); newest = λ place here. cc here }, λ number at other there place touches. cc touches)
      (λ other there. up_to other (next_entry node Note None) refl))

  begin_fits : (writer : ℕ) (op : WriteOp) → IsSoundWrite op → is_collection (collection_of op) ≡ true → FitsOn (standing_of (begin node writer op).node)
  begin_fits writer op sound name = go node.role refl (maps.get node.writers writer)
    where
      effect : is_primary node.role ≡ true → (found : Result Prepared Refusal) → admitted node op ≡ found → FitsOn (standing_of (begun node writer found).node)
      effect primary (Err why) is = λ up leads. fit
      effect primary (Ok prepared.NoMatch) is = λ up leads. fit
      effect primary (Ok prepared.Unchanged) is = λ up leads. fit
      effect primary (Ok (prepared.Entry logged after)) is = λ up leads.
          let new : IsAdmitted node logged None = admitted_ready node None op logged after log fit.stored sound name tt is in
          record { stored = fit.stored; ascends = fit.ascends; ready = λ _. opened_ready node.term node.log node.writers writer (next_optime node) logged (fit.ready primary) new.0 new.1 }

      go : (role : Role) → node.role ≡ role → (found : Option Writer) → FitsOn (standing_of (if_primary role (unless_open node found (begun node writer (admitted node op))) (refused NotPrimary node)).node)
      go roles.Primary role (Some (writers.Open at entry)) = λ up leads. fit
      go roles.Primary role (Some (writers.Done at)) = effect (ap is_primary role) (admitted node op) refl
      go roles.Primary role (Some (writers.Lost term)) = effect (ap is_primary role) (admitted node op) refl
      go roles.Primary role None = effect (ap is_primary role) (admitted node op) refl
      go roles.Secondary role found = λ up leads. fit
      go roles.Candidate role found = λ up leads. fit
      go roles.Draining role found = λ up leads. fit

  -- a node with an open writer is primary
  open_primary : (writer : ℕ) (at : OpTime) (op : Op) → maps.get node.writers writer ≡ Some (writers.Open at op) → is_primary node.role ≡ true
  open_primary writer at op is = elim (cases_Bool (is_primary node.role)) [
    | inl primary ↦ primary
    | inr none ↦ absurd (subst (λ (l : List OpTime). In at l) (log.none none) (log.open_ones writer at op is))
  ]

  with_open_fits : (found : Option Writer) (done : OpTime → Op → Outcome) → ((at : OpTime) (op : Op) → found ≡ Some (writers.Open at op) → FitsOn (standing_of (done at op).node)) → FitsOn (standing_of (with_open node found done).node)
  with_open_fits (Some (writers.Open at op)) done goes = goes at op refl
  with_open_fits (Some (writers.Lost term)) done goes = λ up leads. fit
  with_open_fits (Some (writers.Done at)) done goes = λ up leads. fit
  with_open_fits None done goes = λ up leads. fit

  commit_fits : (writer : ℕ) → FitsOn (standing_of (commit node writer).node)
  commit_fits writer = with_open_fits (maps.get node.writers writer) _ (λ at op is up leads.
      let ready : AreReady node.term node.log node.writers = fit.ready (open_primary writer at op is) in
      let both : AreStored (with_entry node.log (record { optime = at; op = op; session = None })) × AreReady node.term (with_entry node.log (record { optime = at; op = op; session = None })) (maps.insert node.writers writer (writers.Done at)) =
      written_ready node.term node.log (maps.insert node.writers writer (writers.Done at)) at op None log.rises fit.stored
      (fewer_ready node.term node.log node.writers (maps.insert node.writers writer (writers.Done at)) ready (λ number by other there. (still writer at number by other there).1))
      (ready.open_ops writer at op is)
      (λ number by other there place touches touches_too.
      (still writer at number by other there).0 (ready.alone number writer by at other op place (still writer at number by other there).1 is touches_too touches)) in
      record { stored = both.0; ascends = ascends_with node.log (record { optime = at; op = op; session = None }) refl fit.ascends; ready = λ _. both.1 })
    where
      still : (writer : ℕ) (at : OpTime) (number : ℕ) (by : OpTime) (other : Op) → maps.get (maps.insert node.writers writer (writers.Done at)) number ≡ Some (writers.Open by other)
          → (number ≢ writer) × (maps.get node.writers number ≡ Some (writers.Open by other))
      still writer at number by other there = elim (open_with node.writers writer number (writers.Done at) by other there) [
        | inl same ↦ absurd (cc same.1)
        | inr before ↦ (before.0, before.1)
      ]

  abort_fits : (writer : ℕ) → FitsOn (standing_of (abort node writer).node)
  abort_fits writer = with_open_fits (maps.get node.writers writer) _ (λ at op is up leads. record {
    stored = fit.stored;
    ascends = fit.ascends;
    ready = λ primary. fewer_ready node.term node.log node.writers (maps.remove node.writers writer) (fit.ready primary) (λ number by other there. (open_without node.writers writer number by other there).1);
  })

  -- a primary begins with a no-op: it has no entry of its term
  drain_fits : (is_draining node.role ≡ true → (entry : Entry) → In entry node.log → entry.optime.term ≢ node.term) → FitOn (drain node)
  drain_fits fresh = plan_if (is_draining node.role) _ _
      (λ is. (ended (standing_of (in_doubt node (config_record (in_term node.config node.term)))) refl, λ up leads. begun_fit is))
      (λ is. λ up leads. fit)
    where
      not_primary : is_draining node.role ≡ true → is_primary node.role ≡ false
      not_primary is = ap is_primary (draining_is node.role is)

      ready : is_draining node.role ≡ true → AreReady node.term node.log node.writers
      ready is = record {
        own = λ entry there term. absurd (fresh is entry there term);
        open_ops = λ number at op there. absurd (cc (open_primary number at op there, not_primary is));
        alone = λ one two at by op other place there there_too touches touches_too. absurd (cc (open_primary one at op there, not_primary is));
      }

      begun_fit : is_draining node.role ≡ true → IsFit (record { up = node.up; role = roles.Primary; term = node.term; log = with_entry node.log (record { optime = next_optime node; op = Noop; session = None }); writers = node.writers })
      begun_fit is =
          let both : AreStored (with_entry node.log (record { optime = next_optime node; op = Noop; session = None })) × AreReady node.term (with_entry node.log (record { optime = next_optime node; op = Noop; session = None })) node.writers =
          written_ready node.term node.log node.writers (next_optime node) Noop None log.rises fit.stored (ready is)
          (record { fit = (tt, noop_within (next_optime node), (tt, tt)); newest = λ place here. cc here })
          (λ number at other there place touches. cc touches) in
          record { stored = both.0; ascends = ascends_with node.log (record { optime = next_optime node; op = Noop; session = None }) refl fit.ascends; ready = λ _. both.1 }

-- ---- what is asked

module _ (node : Node) (fit : FitNow (standing_of node)) where
  ack_fits : (target : Target) (concern : AckConcern) → FitsOn (standing_of (ack node target concern).node)
  ack_fits target concern = go (target_point node target)
    where
      met : (at : OpTime) (why : Option Refusal) → FitsOn (standing_of (acked node at why).node)
      met at (Some why) = same (standing_of node) fit
      met at None = same (standing_of node) fit

      go : (found : Result OpTime Refusal) → FitsOn (standing_of (ack_at node concern found).node)
      go (Err why) = same (standing_of node) fit
      go (Ok at) = met at (ack_refusal node at concern)

  read_fits : (level : ReadLevel) (collection : List ℕ) (id : Tree) → FitsOn (standing_of (read node level collection id).node)
  read_fits level collection id = go (key_of id)
    where
      go : (key : Option IdKey) → FitsOn (standing_of (read_key node level collection key).node)
      go None = same (standing_of node) fit
      go (Some key) = same (standing_of node) fit

  fetch_fits : (next : ℕ) → FitsOn (standing_of (fetch next node).node)
  fetch_fits next = go (lowest (sources node))
    where
      go : (source : Option ℕ) → FitsOn (standing_of (fetch_from next node source).node)
      go None = same (standing_of node) fit
      go (Some source) = same (standing_of node) fit

  -- ---- elections

  campaign_fits : (next : ℕ) → FitOn (campaign next node)
  campaign_fits next = plan_unless node (candidate_refusal node) _ fit (
    ended (standing_of (in_doubt node (vote_record (node.term + 1) (Some node.number)))) refl,
    outcome_if (is_elected (candidate (stored node (vote_record (node.term + 1) (Some node.number))))) _ _
        (λ is up leads. follower_fit _ refl (fit up).stored (fit up).ascends) (λ is. follows _ refl),
  )

  dry_run_fits : (next : ℕ) → FitOn (dry_run next node)
  dry_run_fits next = plan_unless node (candidate_refusal node) _ fit (same (standing_of node) fit)

  step_down_fits : FitsOn (standing_of (step_down node).node)
  step_down_fits = outcome_if (is_secondary node.role) _ _ (λ is. same (standing_of node) fit) (λ is. follows _ refl)

  -- ---- disks

  apply_fits : FitsOn (standing_of (apply node).node)
  apply_fits = outcome_if (is_primary node.role) _ _ (λ is. same (standing_of node) fit) (λ is. go (next_batch node))
    where
      go : (batch : List Entry) → FitsOn (standing_of (batch_applied node batch).node)
      go [] = same (standing_of node) fit
      go (entry ∷ entries) = same (standing_of node) fit

  flush_fits : FitOn (flush node)
  flush_fits = plan_if (is_flushed node) _ _ (λ is. same (standing_of node) fit) (λ is. (ended _ refl, same (standing_of node) fit))

  checkpoint_fits : FitOn (checkpoint node)
  checkpoint_fits = plan_if (same_optime (next_stable node) node.stable) _ _ (λ is. same (standing_of node) fit) (λ is. (ended _ refl, same (standing_of node) fit))

  reconfig_fits : (nodes : ℕ) (config : Config) → FitOn (reconfig nodes node config)
  reconfig_fits nodes config = plan_unless node (reconfig_refusal nodes node config) _ fit (ended _ refl, same (standing_of node) fit)

recovered_fits : (node : Node) → FitOn (recovered node)
recovered_fits node = plan_if (has_more (kept node.records)) _ _ (λ is. (ended _ refl, follows _ refl)) (λ is. follows _ refl)

restart_fits : (node : Node) (there : Bool) → FitNow (standing_of node) → FitOn (restart node there)
restart_fits node there fit = plan_if node.up _ _ (λ is. same (standing_of node) fit) (λ is. (same (standing_of node) fit, recovered_fits (settled_doubt node node.doubt there)))

-- ---- each command

-- a leader that hasn't drained has no entry of its term
abbrev pub IsFresh : Node → Type 0
IsFresh node = is_draining node.role ≡ true → (entry : Entry) → In entry node.log → entry.optime.term ≢ node.term

pub row_fits : (nodes next : ℕ) (there : Bool) (node : Node) (command : Command) → FitNow (standing_of node) → (node.up ≡ true → HasLog node) → (node.up ≡ true → IsFresh node)
    → is_within command ≡ true → IfSome (write_of command) IsSoundWrite → FitOn (row nodes next there node command)
row_fits nodes next there node (Command.Ack number target concern) fit log fresh within sound = plan_up node _ fit (λ up. ack_fits node fit target concern)
row_fits nodes next there node (Command.Read number level collection id) fit log fresh within sound = plan_up node _ fit (λ up. read_fits node fit level collection (tree_of id))
row_fits nodes next there node (Command.Dump number level) fit log fresh within sound = plan_up node _ fit (λ up. same (standing_of node) fit)
row_fits nodes next there node (Command.Log number) fit log fresh within sound = plan_up node _ fit (λ up. same (standing_of node) fit)
row_fits nodes next there node (Command.State number) fit log fresh within sound = plan_up node _ fit (λ up. same (standing_of node) fit)
row_fits nodes next there node (Command.Rolled number) fit log fresh within sound = plan_up node _ fit (λ up. same (standing_of node) fit)
row_fits nodes next there node (Command.DryRun number) fit log fresh within sound = plan_up node _ fit (λ up. dry_run_fits node fit next)
row_fits nodes next there node (Command.Heartbeat number to) fit log fresh within sound = plan_up node _ fit (λ up. same (standing_of node) fit)
row_fits nodes next there node (Command.Report number to) fit log fresh within sound = plan_up node _ fit (λ up. same (standing_of node) fit)
row_fits nodes next there node (Command.Common number to) fit log fresh within sound = plan_up node _ fit (λ up. same (standing_of node) fit)
row_fits nodes next there node (Command.Fetch number) fit log fresh within sound = plan_up node _ fit (λ up. fetch_fits node fit next)
row_fits nodes next there node (Command.Deliver message) fit log fresh within sound = same (standing_of node) fit
row_fits nodes next there node (Command.DeliverLatest from to) fit log fresh within sound = same (standing_of node) fit
row_fits nodes next there node (Command.DiskFail number disk call pick) fit log fresh within sound = same (standing_of node) fit
row_fits nodes next there node (Command.Clock number seconds) fit log fresh within sound = same (standing_of node) fit
row_fits nodes next there node (Command.Campaign number) fit log fresh within sound = plan_up node _ fit (λ up. campaign_fits node fit next)
row_fits nodes next there node (Command.Drain number) fit log fresh within sound = plan_up node _ fit (λ up. drain_fits node (fit up) (log up) (fresh up))
row_fits nodes next there node (Command.Insert number collection document) fit log fresh within sound = plan_up node _ fit (λ up. write_fits node (fit up) (log up) (ops.Insert collection document) sound within)
row_fits nodes next there node (Command.Replace number collection id document) fit log fresh within sound = plan_up node _ fit (λ up. write_fits node (fit up) (log up) (ops.Replace collection id document) sound within)
row_fits nodes next there node (Command.Update number collection id operators) fit log fresh within sound = plan_up node _ fit (λ up. write_fits node (fit up) (log up) (ops.Update collection id operators) sound within)
row_fits nodes next there node (Command.Delete number collection id) fit log fresh within sound = plan_up node _ fit (λ up. write_fits node (fit up) (log up) (ops.Delete collection id) sound within)
row_fits nodes next there node (Command.Retry number session op) fit log fresh within sound = plan_up node _ fit (λ up. retry_fits node (fit up) (log up) session op (and_parts (is_within_session session) (is_collection (collection_of op)) within).0 sound (and_parts (is_within_session session) (is_collection (collection_of op)) within).1)
row_fits nodes next there node (Command.Note number) fit log fresh within sound = plan_up node _ fit (λ up. note_fits node (fit up) (log up))
row_fits nodes next there node (Command.Begin number writer op) fit log fresh within sound = plan_up node _ fit (λ up. begin_fits node (fit up) (log up) writer op sound (and_parts (nat_lt writer 1000) (is_collection (collection_of op)) within).1)
row_fits nodes next there node (Command.Commit number writer) fit log fresh within sound = plan_up node _ fit (λ up. commit_fits node (fit up) (log up) writer)
row_fits nodes next there node (Command.Abort number writer) fit log fresh within sound = plan_up node _ fit (λ up. abort_fits node (fit up) (log up) writer)
row_fits nodes next there node (Command.StepDown number) fit log fresh within sound = plan_up node _ fit (λ up. step_down_fits node fit)
row_fits nodes next there node (Command.Apply number workers) fit log fresh within sound = plan_up node _ fit (λ up. apply_fits node fit)
row_fits nodes next there node (Command.Flush number) fit log fresh within sound = plan_up node _ fit (λ up. flush_fits node fit)
row_fits nodes next there node (Command.Checkpoint number) fit log fresh within sound = plan_up node _ fit (λ up. checkpoint_fits node fit)
row_fits nodes next there node (Command.Reconfig number config) fit log fresh within sound = plan_up node _ fit (λ up. reconfig_fits node fit nodes config)
row_fits nodes next there node (Command.Crash number pick) fit log fresh within sound = plan_up node _ fit (λ up. ended _ refl)
row_fits nodes next there node (Command.Restart number) fit log fresh within sound = restart_fits node there fit
