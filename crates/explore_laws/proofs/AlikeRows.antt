-- A command at two nodes that are alike.
use Rattle.std.proofs.Common.{◌≡◌, ◌∙◌, ◌<◌, ◌+◌, ◌==◌, ◌&&◌, inl, inr, arith, ap, sym, subst, refl, ℕ, Bool, true, false, nat_lt, Option, None, Some, Result, Ok, Err, List, [], ◌∷◌, ◌++◌, if◌then◌else◌, length, take, filter, not}
use Rattle.std.specs.FinMap as maps
use Rattle.bson_doc.specs.Key.{key_of}
use Rattle.bson_doc.specs.Tree.{Tree}
use Rattle.bson_doc.specs.View.{tree_of}
use Rattle.bson_doc.specs.declared.key.IdKey.{IdKey}
use Rattle.doc_update.specs.declared.write.Prepared.{Prepared}
use Rattle.doc_update.specs.declared.write.Prepared.TheVariants as prepared
use Rattle.doc_update.specs.declared.write.WriteOp.{WriteOp}
use Rattle.doc_update.specs.declared.write.WriteOp.TheVariants as ops
use Rattle.member_config.specs.Config.{in_term}
use Rattle.member_config.specs.Numbers.{lowest}
use Rattle.member_config.specs.declared.config.Config.{Config}
use Rattle.oplog_entry.specs.Visible.{last_of}
use Rattle.oplog_entry.specs.declared.entry.Entry.{Entry}
use Rattle.oplog_entry.specs.declared.entry.Op.{Op}
use Rattle.oplog_entry.specs.declared.entry.Op.TheVariants.{Note}
use Rattle.oplog_entry.specs.declared.entry.Session.{Session}
use Rattle.repl_msg.specs.Kept.{kept}
use Rattle.repl_msg.specs.declared.message.Body.{Body}
use Rattle.repl_msg.specs.declared.record.Kept.{Kept}
use Rattle.repl_msg.specs.declared.record.Record.{Record}
use Rattle.repl_msg.specs.declared.record.Record.TheVariants as records
use Rattle.repl_msg.proofs.KeptLemmas.{kept_more}
use Rattle.rs_optime.specs.declared.optime.OpTime.{OpTime}
use Rattle.vote_store.specs.declared.vote.Vote.{Vote}
use Rattle.set_model.specs.declared.command.AckConcern.{AckConcern}
use Rattle.set_model.specs.declared.command.Command.{Command}
use Rattle.set_model.specs.declared.command.ReadLevel.{ReadLevel}
use Rattle.set_model.specs.declared.command.Target.{Target}
use Rattle.set_model.specs.declared.reply.Refusal.{Refusal}
use Rattle.set_model.specs.declared.reply.Refusal.TheVariants.{NothingToDo}
use Rattle.set_model.specs.declared.reply.Reply.{Reply}
use Rattle.set_model.specs.declared.reply.Reply.TheVariants as reply
use Rattle.set_model.specs.declared.session.LastWrite.{LastWrite}
use Rattle.set_model.specs.declared.store.Store.{Store}
use Rattle.set_model.specs.declared.store.Store.TheVariants as stores
use Rattle.set_model.specs.declared.writer.Writer.{Writer}
use Rattle.set_model.specs.declared.writer.Writer.TheVariants as writers
use Rattle.set_model.specs.Admitted.{admitted}
use Rattle.set_model.specs.Changes.{logged, opened, stepped_down}
use Rattle.set_model.specs.Concerns.{ack, ack_at, acked, ack_refusal, target_point}
use Rattle.set_model.specs.Disk.{apply, batch_applied, next_batch, flush, flushed, unjournaled, checkpoint, next_stable, crash, restart, recovered, came_back, come_back, settled_doubt, has_more}
use Rattle.set_model.specs.Elections.{campaign, candidate, candidate_refusal, dry_run, trying, drain, drained, primary_begun, step_down}
use Rattle.set_model.specs.Fetching.{fetch, fetch_from, sources}
use Rattle.set_model.specs.Node.{Node}
use Rattle.set_model.specs.Outcome.{Outcome, replied, refused, message_to, sending}
use Rattle.set_model.specs.Points.{earlier_of, same_optime, visible_point, has_entry}
use Rattle.set_model.specs.Reads.{read, read_key}
use Rattle.set_model.specs.Reconfig.{reconfig, reconfig_refusal, reconfigured}
use Rattle.set_model.specs.Roles.{is_candidate, is_draining, is_primary, is_secondary}
use Rattle.set_model.specs.Rollback.{cut_record}
use Rattle.set_model.specs.Rows.{row}
use Rattle.set_model.specs.Sessions.{last_write}
use Rattle.set_model.specs.Stores.{Plan, finished, stored, then_stored, config_record, vote_record}
use Rattle.set_model.specs.Votes.{asks, is_elected, won}
use Rattle.set_model.specs.Write.{write, written, retry, retried, note}
use Rattle.set_model.specs.Writers.{begin, begun, unless_open, with_open, commit, settled as committed, abort, aborted}
use Rattle.explore_laws.specs.Alike.{AlikeReplies, ComeToOne}
use Rattle.explore_laws.specs.Settled.{IsSettled}
use Rattle.explore_laws.specs.Steps.{CommandsGoAlike, GoAlike, PlansGoAlike}
use Rattle.explore_laws.proofs.AlikePlans.{changed, come_more, ends_if, if_goes, kept_goes, primary_goes, refusal, same_role, still, term_down, term_up, to_primary, to_secondary, twin, unless_goes, up_goes, vote_goes}

-- ---- coming up

-- a node comes up with what its records come to
comes_back : (node : Node) (one two : Kept) → ComeToOne one two → come_back node one ≡ come_back node two
comes_back node one two same =
    ap (λ v. back_of v one.config one.entries one.point) same.vote
    ∙ ap (λ c. back_of two.vote c one.entries one.point) same.config
    ∙ ap (λ e. back_of two.vote two.config e one.point) same.entries
    ∙ ap (λ p. back_of two.vote two.config two.entries p) same.point
  where
    back_of : Vote → Option Config → List Entry → OpTime → Node
    back_of vote config entries point = come_back node (record { form = 0; vote = vote; config = config; entries = entries; point = point; count = 0 })

module _ (node : Node) (other : List Record) (votes : List ℕ) (same : ComeToOne (kept node.records) (kept other)) (counts : is_candidate node.role ≡ true → node.tally ≡ votes) (settled : IsSettled node) where
  -- ---- writes

  abbrev beside : Node
  beside = twin node other votes same counts settled

  written_goes : (session : Option Session) (found : Result Prepared Refusal) → GoAlike node (written node session found) (written beside session found)
  written_goes session (Err why) = refusal node other votes same counts settled why
  written_goes session (Ok prepared.NoMatch) = still node other votes same counts settled reply.NoMatch reply.NoMatch refl
  written_goes session (Ok prepared.Unchanged) = still node other votes same counts settled reply.Unchanged reply.Unchanged refl
  written_goes session (Ok (prepared.Entry op after)) = changed node other votes same counts settled (logged node op session) _ _ _ [] refl refl refl refl refl (same_role node.role) counts

  write_goes : (op : WriteOp) → GoAlike node (write node op) (write beside op)
  write_goes op = primary_goes node other votes same counts settled _ _ (written_goes None (admitted node op))

  retry_goes : (session : Session) (op : WriteOp) → GoAlike node (retry node session op) (retry beside session op)
  retry_goes session op = primary_goes node other votes same counts settled _ _ (by (last_write session.id node.log))
    where
      by : (last : Option LastWrite) → GoAlike node (retried node session op last) (retried beside session op last)
      by None = written_goes (Some session) (admitted node op)
      by (Some last) = ends_if node other votes same counts settled (nat_lt session.number last.number) _ _ _ _ (λ is. refusal node other votes same counts settled _) (λ is.
          ends_if node other votes same counts settled (last.number == session.number) _ _ _ _ (λ same_number. still node other votes same counts settled _ _ refl) (λ higher.
          written_goes (Some session) (admitted node op)))

  note_goes : GoAlike node (note node) (note beside)
  note_goes = primary_goes node other votes same counts settled _ _ (changed node other votes same counts settled (logged node Note None) _ _ _ [] refl refl refl refl refl (same_role node.role) counts)

  begin_goes : (writer : ℕ) (op : WriteOp) → GoAlike node (begin node writer op) (begin beside writer op)
  begin_goes writer op = primary_goes node other votes same counts settled _ _ (by (maps.get node.writers writer))
    where
      effect : (found : Result Prepared Refusal) → GoAlike node (begun node writer found) (begun beside writer found)
      effect (Err why) = refusal node other votes same counts settled why
      effect (Ok prepared.NoMatch) = still node other votes same counts settled _ _ refl
      effect (Ok prepared.Unchanged) = still node other votes same counts settled _ _ refl
      effect (Ok (prepared.Entry entry after)) = changed node other votes same counts settled (opened node writer entry) _ _ _ [] refl refl refl refl refl (same_role node.role) counts

      by : (found : Option Writer) → GoAlike node (unless_open node found (begun node writer (admitted node op))) (unless_open beside found (begun beside writer (admitted beside op)))
      by (Some (writers.Open at entry)) = refusal node other votes same counts settled _
      by (Some (writers.Done at)) = effect (admitted node op)
      by (Some (writers.Lost term)) = effect (admitted node op)
      by None = effect (admitted node op)

  open_goes : (found : Option Writer) (one two : OpTime → Op → Outcome) → ((at : OpTime) (op : Op) → GoAlike node (one at op) (two at op)) → GoAlike node (with_open node found one) (with_open beside found two)
  open_goes (Some (writers.Open at op)) one two go = go at op
  open_goes (Some (writers.Lost term)) one two go = refusal node other votes same counts settled _
  open_goes (Some (writers.Done at)) one two go = refusal node other votes same counts settled _
  open_goes None one two go = refusal node other votes same counts settled _

  commit_goes : (writer : ℕ) → GoAlike node (commit node writer) (commit beside writer)
  commit_goes writer = open_goes (maps.get node.writers writer) _ _ (λ at op. changed node other votes same counts settled (committed node writer at op) _ _ _ [] refl refl refl refl refl (same_role node.role) counts)

  abort_goes : (writer : ℕ) → GoAlike node (abort node writer) (abort beside writer)
  abort_goes writer = open_goes (maps.get node.writers writer) _ _ (λ at op. changed node other votes same counts settled (aborted node writer at) _ _ _ [] refl refl refl refl refl (same_role node.role) counts)

  -- ---- what is shown and sent

  ack_goes : (target : Target) (concern : AckConcern) → GoAlike node (ack node target concern) (ack beside target concern)
  ack_goes target concern = by (target_point node target)
    where
      met : (at : OpTime) (why : Option Refusal) → GoAlike node (acked node at why) (acked beside at why)
      met at (Some why) = refusal node other votes same counts settled why
      met at None = still node other votes same counts settled _ _ refl

      by : (found : Result OpTime Refusal) → GoAlike node (ack_at node concern found) (ack_at beside concern found)
      by (Err why) = refusal node other votes same counts settled why
      by (Ok at) = met at (ack_refusal node at concern)

  read_goes : (level : ReadLevel) (collection : List ℕ) (id : Tree) → GoAlike node (read node level collection id) (read beside level collection id)
  read_goes level collection id = by (key_of id)
    where
      by : (key : Option IdKey) → GoAlike node (read_key node level collection key) (read_key beside level collection key)
      by None = refusal node other votes same counts settled _
      by (Some key) = still node other votes same counts settled _ _ refl

  -- one message
  pub sends : (one two : Reply) (to : ℕ) (body : Body) → AlikeReplies one two → GoAlike node (sending one node to body) (sending two beside to body)
  sends one two to body alike = changed node other votes same counts settled node _ one two (message_to node to body ∷ []) alike refl refl refl refl (same_role node.role) counts

  fetch_goes : (next later : ℕ) → GoAlike node (fetch next node) (fetch later beside)
  fetch_goes next later = by (lowest (sources node))
    where
      by : (source : Option ℕ) → GoAlike node (fetch_from next node source) (fetch_from later beside source)
      by None = refusal node other votes same counts settled _
      by (Some source) = sends _ _ source _ refl

  -- ---- roles

  step_down_goes : GoAlike node (step_down node) (step_down beside)
  step_down_goes = ends_if node other votes same counts settled (is_secondary node.role) _ _ _ _ (λ is. refusal node other votes same counts settled _)
      (λ is. changed node other votes same counts settled (stepped_down node) _ _ _ [] refl refl refl refl refl (to_secondary node.role) (λ is. refl))

  dry_run_goes : (next later : ℕ) → PlansGoAlike node (dry_run next node) (dry_run later beside)
  dry_run_goes next later = unless_goes node other votes same counts settled (candidate_refusal node) _ _
      (changed node other votes same counts settled (trying node) _ _ _ (asks node true) refl refl refl refl refl (same_role node.role) counts)

  apply_goes : GoAlike node (apply node) (apply beside)
  apply_goes = ends_if node other votes same counts settled (is_primary node.role) _ _ _ _ (λ is. refusal node other votes same counts settled _) (λ is. by (next_batch node))
    where
      by : (batch : List Entry) → GoAlike node (batch_applied node batch) (batch_applied beside batch)
      by [] = refusal node other votes same counts settled _
      by (entry ∷ entries) = changed node other votes same counts settled (record node { applied = last_of (entry ∷ entries) }) _ _ _ [] refl refl refl refl refl (same_role node.role) counts

  checkpoint_goes : PlansGoAlike node (checkpoint node) (checkpoint beside)
  checkpoint_goes = if_goes node other votes same counts settled (same_optime (next_stable node) node.stable) _ _ _ _ (λ is. refusal node other votes same counts settled _)
      (λ is. changed node other votes same counts settled (stored node (stores.Checkpoint (next_stable node))) _ _ _ [] refl refl refl refl refl (same_role node.role) counts)

  -- ---- what stores a record

  module _ (up : node.up ≡ true) where
    campaign_goes : (next later : ℕ) → PlansGoAlike node (campaign next node) (campaign later beside)
    campaign_goes next later = unless_goes node other votes same counts settled (candidate_refusal node) _ _
        (ends_if node other votes same counts settled (is_elected asking) _ _ _ _
        (λ is. vote_goes node other votes same counts settled up vote (won asking) _ _ _ (asks asking false) refl refl refl refl refl (inl more) (λ won. refl))
        (λ is. vote_goes node other votes same counts settled up vote asking _ _ _ (asks asking false) refl refl refl refl refl (inl more) (λ lost. refl)))
      where
        vote : Vote
        vote = record { term = node.term + 1; candidate = Some node.number }

        asking : Node
        asking = candidate (stored node (vote_record (node.term + 1) (Some node.number)))

        more : node.term < node.term + 1
        more = omega arith

    drain_goes : PlansGoAlike node (drain node) (drain beside)
    drain_goes = if_goes node other votes same counts settled (is_draining node.role) _ _ _ _
        (λ is. kept_goes node other votes same counts settled up (records.Config (in_term node.config node.term)) (λ before. refl)
        (primary_begun (drained (stored node (config_record (in_term node.config node.term))))).node _ _ _ [] refl refl refl refl refl (to_primary node.role is) (λ no_candidate. absurd (cc no_candidate)))
        (λ is. refusal node other votes same counts settled _)

    reconfig_goes : (nodes : ℕ) (config : Config) → PlansGoAlike node (reconfig nodes node config) (reconfig nodes beside config)
    reconfig_goes nodes config = unless_goes node other votes same counts settled (reconfig_refusal nodes node config) _ _
        (kept_goes node other votes same counts settled up (records.Config (in_term config node.term)) (λ before. refl)
        (reconfigured (stored node (config_record (in_term config node.term))) (in_term config node.term)).node _ _ _ [] refl refl refl refl refl (same_role node.role) counts)

    -- a flush, once it is known which entries the records don't have
    abbrev unjournaled_of : List Entry → List Entry → List Entry
    unjournaled_of log entries = filter (λ entry. not (has_entry entries entry.optime)) log

    abbrev durable_by : Node → List Entry → OpTime
    durable_by start left = if nat_lt 2000 (length left) then earlier_of (visible_point start) (last_of (take 2000 left)) else visible_point start

    abbrev flush_by : Node → List Entry → Plan
    flush_by start left =
        if length left == 0 && same_optime start.durable (visible_point start) then finished (refused NothingToDo start)
        else then_stored start (stores.Record (records.Entries (take 2000 left) (durable_by start left)))
        (λ n. finished (replied (reply.Flushed (length (take 2000 left)) (durable_by start left)) (flushed n (durable_by start left))))

    flush_goes : PlansGoAlike node (flush node) (flush beside)
    flush_goes = subst (λ (left : List Entry). PlansGoAlike node (flush_by node (unjournaled node)) (flush_by beside left)) left_same (by (unjournaled node))
      where
        left_same : unjournaled node ≡ unjournaled beside
        left_same = ap (unjournaled_of node.log) same.entries

        by : (left : List Entry) → PlansGoAlike node (flush_by node left) (flush_by beside left)
        by left = if_goes node other votes same counts settled (length left == 0 && same_optime node.durable (visible_point node)) _ _ _ _ (λ is. refusal node other votes same counts settled _)
            (λ is. kept_goes node other votes same counts settled up (records.Entries (take 2000 left) (durable_by node left)) (λ before. refl)
            (flushed (stored node (stores.Record (records.Entries (take 2000 left) (durable_by node left)))) (durable_by node left)) _ _ _ [] refl refl refl refl refl (same_role node.role) counts)

    crash_goes : GoAlike node (crash node) (crash beside)
    crash_goes = record {
      nodes = record { others = refl; records = same; tally = λ is. refl };
      replies = refl;
      sent = refl;
      rises = inr (sym (term_up node up) ∙ sym (settled.term up), to_secondary node.role);
      settled = record { doubt = settled.doubt; term = λ is. absurd (cc is) };
    }

  -- ---- a restart

  module _ (is_down : node.up ≡ false) where
    -- with these records
    back_goes : (one two : List Record) → ComeToOne (kept one) (kept two) → (kept one).vote ≡ (kept node.records).vote
        → GoAlike node (came_back (record node { records = one })) (came_back (record node { records = two; tally = votes }))
    back_goes one two come vote = record {
      nodes = record { others = comes_back (record node { records = two }) (kept one) (kept two) come; records = come; tally = λ is. refl };
      replies = ap (λ e. reply.Up (last_of e)) come.entries;
      sent = refl;
      rises = inr (sym (term_down node is_down) ∙ sym (ap (λ (v : Vote). v.term) vote), to_secondary node.role);
      settled = record { doubt = refl; term = λ is. refl };
    }

    recovered_goes : PlansGoAlike node (recovered node) (recovered beside)
    recovered_goes = subst (λ (b : Bool). PlansGoAlike node (recovered node) (if b then cut_first (kept other).point else finished (came_back beside))) same_more
        (subst (λ (p : OpTime). PlansGoAlike node (recovered node) (if has_more (kept node.records) then cut_first p else finished (came_back beside))) same.point
        (if_goes node other votes same counts settled (has_more (kept node.records)) _ _ _ _
        (λ is. back_goes (node.records ++ cut ∷ []) (other ++ cut ∷ []) (come_more node.records other cut same) (ap (λ (k : Kept). k.vote) (kept_more node.records cut)))
        (λ is. back_goes node.records other same refl)))
      where
        cut : Record
        cut = records.Cut (kept node.records).point

        cut_first : OpTime → Plan
        cut_first p = then_stored beside (cut_record p) (λ n. finished (came_back n))

        same_more : has_more (kept node.records) ≡ has_more (kept other)
        same_more = ap (λ e. has_more (record (kept node.records) { entries = e })) same.entries ∙ ap (λ p. has_more (record (kept other) { point = p })) same.point

  restart_goes : (there found : Bool) → PlansGoAlike node (restart node there) (restart beside found)
  restart_goes there found = if_goes node other votes same counts settled node.up _ _ _ _ (λ is. refusal node other votes same counts settled _) (λ is. by is node.doubt settled.doubt)
    where
      by : node.up ≡ false → (doubt : Option Store) → doubt ≡ None → PlansGoAlike node (recovered (settled_doubt node doubt there)) (recovered (settled_doubt beside doubt found))
      by is None none = recovered_goes is
      by is (Some store) none = absurd (cc none)

  -- ---- each command

  row_goes : (nodes next later : ℕ) (there found : Bool) (command : Command) → PlansGoAlike node (row nodes next there node command) (row nodes later found beside command)
  row_goes nodes next later there found (Command.Ack number target concern) = up_goes node other votes same counts settled _ _ (λ up. ack_goes target concern)
  row_goes nodes next later there found (Command.Read number level collection id) = up_goes node other votes same counts settled _ _ (λ up. read_goes level collection (tree_of id))
  row_goes nodes next later there found (Command.Dump number level) = up_goes node other votes same counts settled _ _ (λ up. still node other votes same counts settled _ _ refl)
  row_goes nodes next later there found (Command.Log number) = up_goes node other votes same counts settled _ _ (λ up. still node other votes same counts settled _ _ refl)
  row_goes nodes next later there found (Command.State number) = up_goes node other votes same counts settled _ _ (λ up. still node other votes same counts settled _ _ refl)
  row_goes nodes next later there found (Command.Rolled number) = up_goes node other votes same counts settled _ _ (λ up. still node other votes same counts settled _ _ refl)
  row_goes nodes next later there found (Command.DryRun number) = up_goes node other votes same counts settled _ _ (λ up. dry_run_goes next later)
  row_goes nodes next later there found (Command.Heartbeat number to) = up_goes node other votes same counts settled _ _ (λ up. sends _ _ to _ refl)
  row_goes nodes next later there found (Command.Report number to) = up_goes node other votes same counts settled _ _ (λ up. sends _ _ to _ refl)
  row_goes nodes next later there found (Command.Common number to) = up_goes node other votes same counts settled _ _ (λ up. sends _ _ to _ refl)
  row_goes nodes next later there found (Command.Fetch number) = up_goes node other votes same counts settled _ _ (λ up. fetch_goes next later)
  row_goes nodes next later there found (Command.Deliver message) = refusal node other votes same counts settled _
  row_goes nodes next later there found (Command.DeliverLatest from to) = refusal node other votes same counts settled _
  row_goes nodes next later there found (Command.DiskFail number disk call pick) = still node other votes same counts settled _ _ refl
  row_goes nodes next later there found (Command.Clock number seconds) = changed node other votes same counts settled (record node { clock = seconds }) _ _ _ [] refl refl refl refl refl (same_role node.role) counts
  row_goes nodes next later there found (Command.Campaign number) = up_goes node other votes same counts settled _ _ (λ up. campaign_goes up next later)
  row_goes nodes next later there found (Command.Drain number) = up_goes node other votes same counts settled _ _ (λ up. drain_goes up)
  row_goes nodes next later there found (Command.Insert number collection document) = up_goes node other votes same counts settled _ _ (λ up. write_goes (ops.Insert collection document))
  row_goes nodes next later there found (Command.Replace number collection id document) = up_goes node other votes same counts settled _ _ (λ up. write_goes (ops.Replace collection id document))
  row_goes nodes next later there found (Command.Update number collection id operators) = up_goes node other votes same counts settled _ _ (λ up. write_goes (ops.Update collection id operators))
  row_goes nodes next later there found (Command.Delete number collection id) = up_goes node other votes same counts settled _ _ (λ up. write_goes (ops.Delete collection id))
  row_goes nodes next later there found (Command.Retry number session op) = up_goes node other votes same counts settled _ _ (λ up. retry_goes session op)
  row_goes nodes next later there found (Command.Note number) = up_goes node other votes same counts settled _ _ (λ up. note_goes)
  row_goes nodes next later there found (Command.Begin number writer op) = up_goes node other votes same counts settled _ _ (λ up. begin_goes writer op)
  row_goes nodes next later there found (Command.Commit number writer) = up_goes node other votes same counts settled _ _ (λ up. commit_goes writer)
  row_goes nodes next later there found (Command.Abort number writer) = up_goes node other votes same counts settled _ _ (λ up. abort_goes writer)
  row_goes nodes next later there found (Command.StepDown number) = up_goes node other votes same counts settled _ _ (λ up. step_down_goes)
  row_goes nodes next later there found (Command.Apply number workers) = up_goes node other votes same counts settled _ _ (λ up. apply_goes)
  row_goes nodes next later there found (Command.Flush number) = up_goes node other votes same counts settled _ _ (λ up. flush_goes up)
  row_goes nodes next later there found (Command.Checkpoint number) = up_goes node other votes same counts settled _ _ (λ up. checkpoint_goes)
  row_goes nodes next later there found (Command.Reconfig number config) = up_goes node other votes same counts settled _ _ (λ up. reconfig_goes up nodes config)
  row_goes nodes next later there found (Command.Crash number pick) = up_goes node other votes same counts settled _ _ (λ up. crash_goes up)
  row_goes nodes next later there found (Command.Restart number) = restart_goes there found

pub commands_go_alike : CommandsGoAlike
commands_go_alike nodes next later there found one two command settled alike =
    subst (λ (n : Node). PlansGoAlike one (row nodes next there one command) (row nodes later found n command)) alike.others
    (row_goes one two.records two.tally alike.records alike.tally settled nodes next later there found command)
