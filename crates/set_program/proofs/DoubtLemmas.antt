-- No step brings a store into doubt but one whose store fails, and nothing is kept where none is in doubt.
use Rattle.std.proofs.Common.{◌≡◌, ◌∙◌, ap, sym, subst, refl, ℕ, zero, suc, Bool, true, false, not, ◌&&◌, nat_lt, length, ◌==◌, ◌+◌, Option, None, Some, if◌then◌else◌, Result, Ok, Err, List, [], ◌∷◌, slice_get}
use Rattle.std.specs.Prelude.{◌||◌, IfSome, is_some, option_and_then, slice_set}
use Rattle.std.specs.Option.{option_map_or}
use Rattle.std.proofs.lemmas.Option.{same_Some}
use Rattle.std.specs.FinMap as maps
use Rattle.bson_doc.specs.Key.{key_of}
use Rattle.bson_doc.specs.View.{tree_of}
use Rattle.bson_doc.specs.declared.key.IdKey.{IdKey}
use Rattle.doc_update.specs.declared.write.WriteOp.{WriteOp}
use Rattle.doc_update.specs.declared.write.WriteOp.TheVariants as ops
use Rattle.doc_update.specs.Refusal as why
use Rattle.doc_update.specs.declared.write.Prepared.{Prepared}
use Rattle.doc_update.specs.declared.write.Prepared.TheVariants as prepared
use Rattle.rs_optime.specs.declared.optime.OpTime.{OpTime}
use Rattle.oplog_entry.specs.declared.entry.Entry.{Entry}
use Rattle.oplog_entry.specs.declared.entry.Op.{Op}
use Rattle.oplog_entry.specs.declared.entry.Session.{Session}
use Rattle.member_config.specs.declared.config.Config.{Config}
use Rattle.member_config.specs.Config.{first_config, is_newer}
use Rattle.member_config.specs.Numbers.{lowest}
use Rattle.member_config.specs.Voters.{is_member}
use Rattle.repl_msg.specs.Fetching.{continues}
use Rattle.repl_msg.specs.Kept.{kept}
use Rattle.repl_msg.specs.declared.message.Beat.{Beat}
use Rattle.repl_msg.specs.declared.message.Body.{Body}
use Rattle.repl_msg.specs.declared.message.Body.TheVariants.{Fetch, FetchReply as Fetched, Report as Reported, VoteAsk as Asks, VoteReply, Heartbeat, HeartbeatReply, CommonAsk, CommonReply}
use Rattle.repl_msg.specs.declared.message.Message.{Message}
use Rattle.repl_msg.specs.declared.message.VoteRefusal.{VoteRefusal}
use Rattle.set_model.specs.declared.command.AckConcern.{AckConcern}
use Rattle.set_model.specs.declared.command.Command.{Command}
use Rattle.set_model.specs.declared.command.Event.{Event}
use Rattle.set_model.specs.declared.command.ReadLevel.{ReadLevel}
use Rattle.set_model.specs.declared.reply.Ignored.{Ignored}
use Rattle.set_model.specs.declared.reply.Refusal.{Refusal}
use Rattle.set_model.specs.declared.reply.Reply.TheVariants as reply
use Rattle.set_model.specs.declared.role.Role.{Role}
use Rattle.set_model.specs.declared.role.Role.TheVariants as roles
use Rattle.set_model.specs.declared.writer.Writer.{Writer}
use Rattle.set_model.specs.declared.writer.Writer.TheVariants as writers
use Rattle.set_model.specs.Admitted.{admitted}
use Rattle.set_model.specs.Beats.{heard, given_way, beat_of}
use Rattle.set_model.specs.Changes.{in_new_term}
use Rattle.set_model.specs.Concerns.{ack_at, acked, ack_refusal, target_point}
use Rattle.set_model.specs.Deliver.{body_refusal, brings_term, vote_reply_told, told, deliver}
use Rattle.set_model.specs.Disk.{batch_applied, next_batch, is_flushed, next_stable, settled_doubt, has_more}
use Rattle.set_model.specs.Elections.{candidate, candidate_refusal}
use Rattle.set_model.specs.Fetching.{fetch_from, sources}
use Rattle.set_model.specs.Limits.{Fits, is_in_doubt, is_restart, passes_first, settles_doubt}
use Rattle.set_model.specs.Node.{Node, DryTally, opening_node}
use Rattle.set_model.specs.Outcome.{Outcome, replied, sending}
use Rattle.set_model.specs.Points.{if_primary, last_point, same_optime}
use Rattle.set_model.specs.Reads.{read_key}
use Rattle.set_model.specs.Reconfig.{reconfig_refusal}
use Rattle.set_model.specs.Roles.{is_secondary, is_candidate, is_draining, is_primary}
use Rattle.set_model.specs.Rollback.{common_point, roll_back, rollback_reason}
use Rattle.set_model.specs.Rows.{row}
use Rattle.set_model.specs.Run.{Sizes, opening}
use Rattle.set_model.specs.declared.store.Store.{Store}
use Rattle.set_model.specs.Stores.{Plan, finished, storing, done, stored, unless_refused, if_up, vote_record}
use Rattle.set_model.specs.Votes.{vote_refusal, vote_for, with_vote, vote_counted, is_elected, dry_told, dry_counted}
use Rattle.set_model.specs.World.{World, Task, acts, takes, nothing, task, plan_of, event_plan, by_plan, nodes_from, step, touched_node}
use Rattle.set_model.specs.declared.session.LastWrite.{LastWrite}
use Rattle.set_model.specs.Sessions.{last_write}
use Rattle.set_model.specs.Write.{note, retried, retry, write, write_in, written}
use Rattle.set_model.specs.Writers.{begin, begun, unless_open, with_open}
use Rattle.safety_laws.proofs.SmallRuns.{count_from}

-- ---- no store in doubt

-- none is, of the node that an outcome leaves
record IsSure (outcome : Outcome) : Type 0 where
  sure : outcome.node.doubt ≡ None

sure_of : (outcome : Outcome) → outcome.node.doubt ≡ None → IsSure outcome
sure_of outcome is = record { sure = is }

-- wherever the plan ends, if no store fails
abbrev AreSure : Plan → Type 0
AreSure (finished outcome) = IsSure outcome
AreSure (storing broken rest) = AreSure rest

done_sure : (plan : Plan) → AreSure plan → IsSure (done plan None)
done_sure (finished outcome) sure = sure
done_sure (storing broken rest) sure = done_sure rest sure

-- ---- by cases

plan_if : (test : Bool) (one two : Plan) → AreSure one → AreSure two → AreSure (if test then one else two)
plan_if true one two first second = first
plan_if false one two first second = second

outcome_if : (test : Bool) (one two : Outcome) → IsSure one → IsSure two → IsSure (if test then one else two)
outcome_if true one two first second = first
outcome_if false one two first second = second

primary_sure : (role : Role) (one two : Outcome) → IsSure one → IsSure two → IsSure (if_primary role one two)
primary_sure roles.Primary one two first second = first
primary_sure roles.Secondary one two first second = second
primary_sure roles.Candidate one two first second = second
primary_sure roles.Draining one two first second = second

heard_sure : (node : Node) (from : ℕ) (beat : Beat) (answer : Node → Outcome) → node.doubt ≡ None → ((n : Node) → n.doubt ≡ None → IsSure (answer n)) → AreSure (heard node from beat answer)
heard_sure node from beat answer none sure = plan_if (is_secondary (given_way node beat).role && is_newer beat.config (given_way node beat).config) _ _ (sure _ none) (sure _ none)

module _ (node : Node) (none : node.doubt ≡ None) where
  refuse : (why : Option Refusal) (plan : Plan) → AreSure plan → AreSure (unless_refused why node plan)
  refuse (Some why) plan sure = sure_of _ none
  refuse None plan sure = sure

  up_sure : (plan : Plan) → AreSure plan → AreSure (if_up node plan)
  up_sure plan sure = plan_if node.up plan _ sure (sure_of _ none)

  -- ---- writes

  written_sure : (session : Option Session) (found : Result Prepared Refusal) → IsSure (written node session found)
  written_sure session (Err why) = sure_of _ none
  written_sure session (Ok prepared.NoMatch) = sure_of _ none
  written_sure session (Ok prepared.Unchanged) = sure_of _ none
  written_sure session (Ok (prepared.Entry entry after)) = sure_of _ none

  write_in_sure : (session : Option Session) (op : WriteOp) → IsSure (write_in node session op)
  write_in_sure session op = written_sure session (admitted node op)

  write_sure : (op : WriteOp) → IsSure (write node op)
  write_sure op = primary_sure node.role _ _ (write_in_sure None op) (sure_of _ none)

  retried_sure : (session : Session) (op : WriteOp) (found : Option LastWrite) → IsSure (retried node session op found)
  retried_sure session op None = write_in_sure (Some session) op
  retried_sure session op (Some last) =
      outcome_if (nat_lt session.number last.number) _ _ (sure_of _ none) (outcome_if (last.number == session.number) _ _ (sure_of _ none) (write_in_sure (Some session) op))

  retry_sure : (session : Session) (op : WriteOp) → IsSure (retry node session op)
  retry_sure session op = primary_sure node.role _ _ (retried_sure session op (last_write session.id node.log)) (sure_of _ none)

  note_sure : IsSure (note node)
  note_sure = primary_sure node.role _ _ (sure_of _ none) (sure_of _ none)

  begun_sure : (writer : ℕ) (found : Result Prepared Refusal) → IsSure (begun node writer found)
  begun_sure writer (Err why) = sure_of _ none
  begun_sure writer (Ok prepared.NoMatch) = sure_of _ none
  begun_sure writer (Ok prepared.Unchanged) = sure_of _ none
  begun_sure writer (Ok (prepared.Entry entry after)) = sure_of _ none

  unless_open_sure : (found : Option Writer) (outcome : Outcome) → IsSure outcome → IsSure (unless_open node found outcome)
  unless_open_sure (Some (writers.Open at op)) outcome sure = sure_of _ none
  unless_open_sure (Some (writers.Done at)) outcome sure = sure
  unless_open_sure (Some (writers.Lost term)) outcome sure = sure
  unless_open_sure None outcome sure = sure

  begin_sure : (writer : ℕ) (op : WriteOp) → IsSure (begin node writer op)
  begin_sure writer op = primary_sure node.role _ _ (unless_open_sure (maps.get node.writers writer) _ (begun_sure writer (admitted node op))) (sure_of _ none)

  open_sure : (found : Option Writer) (with_it : OpTime → Op → Outcome) → ((at : OpTime) (op : Op) → IsSure (with_it at op)) → IsSure (with_open node found with_it)
  open_sure (Some (writers.Open at op)) with_it sure = sure at op
  open_sure (Some (writers.Lost term)) with_it sure = sure_of _ none
  open_sure (Some (writers.Done at)) with_it sure = sure_of _ none
  open_sure None with_it sure = sure_of _ none

  -- ---- what is asked

  acked_sure : (at : OpTime) (why : Option Refusal) → IsSure (acked node at why)
  acked_sure at (Some why) = sure_of _ none
  acked_sure at None = sure_of _ none

  ack_at_sure : (concern : AckConcern) (found : Result OpTime Refusal) → IsSure (ack_at node concern found)
  ack_at_sure concern (Err why) = sure_of _ none
  ack_at_sure concern (Ok at) = acked_sure at (ack_refusal node at concern)

  read_sure : (level : ReadLevel) (collection : List ℕ) (key : Option IdKey) → IsSure (read_key node level collection key)
  read_sure level collection None = sure_of _ none
  read_sure level collection (Some key) = sure_of _ none

  fetch_sure : (next : ℕ) (source : Option ℕ) → IsSure (fetch_from next node source)
  fetch_sure next None = sure_of _ none
  fetch_sure next (Some source) = sure_of _ none

  -- ---- disks

  batch_sure : (batch : List Entry) → IsSure (batch_applied node batch)
  batch_sure [] = sure_of _ none
  batch_sure (entry ∷ entries) = sure_of _ none

  -- ---- each command

  row_sure : (nodes next : ℕ) (there : Bool) (command : Command) → AreSure (row nodes next there node command)
  row_sure nodes next there (Command.Ack number target concern) = up_sure _ (ack_at_sure concern (target_point node target))
  row_sure nodes next there (Command.Read number level collection id) = up_sure _ (read_sure level collection (key_of (tree_of id)))
  row_sure nodes next there (Command.Dump number level) = up_sure _ (sure_of _ none)
  row_sure nodes next there (Command.Log number) = up_sure _ (sure_of _ none)
  row_sure nodes next there (Command.State number) = up_sure _ (sure_of _ none)
  row_sure nodes next there (Command.Rolled number) = up_sure _ (sure_of _ none)
  row_sure nodes next there (Command.DryRun number) = up_sure _ (refuse (candidate_refusal node) _ (sure_of _ none))
  row_sure nodes next there (Command.Heartbeat number to) = up_sure _ (sure_of _ none)
  row_sure nodes next there (Command.Report number to) = up_sure _ (sure_of _ none)
  row_sure nodes next there (Command.Common number to) = up_sure _ (sure_of _ none)
  row_sure nodes next there (Command.Fetch number) = up_sure _ (fetch_sure next (lowest (sources node)))
  row_sure nodes next there (Command.Deliver message) = sure_of _ none
  row_sure nodes next there (Command.DeliverLatest from to) = sure_of _ none
  row_sure nodes next there (Command.DiskFail number disk call pick) = sure_of _ none
  row_sure nodes next there (Command.Clock number seconds) = sure_of _ none
  row_sure nodes next there (Command.Campaign number) = up_sure _ (refuse (candidate_refusal node) _ (outcome_if (is_elected (candidate (stored node (vote_record (node.term + 1) (Some node.number))))) _ _ (sure_of _ none) (sure_of _ none)))
  row_sure nodes next there (Command.Drain number) = up_sure _ (plan_if (is_draining node.role) _ _ (sure_of _ none) (sure_of _ none))
  row_sure nodes next there (Command.Insert number collection document) = up_sure _ (write_sure (ops.Insert collection document))
  row_sure nodes next there (Command.Replace number collection id document) = up_sure _ (write_sure (ops.Replace collection id document))
  row_sure nodes next there (Command.Update number collection id operators) = up_sure _ (write_sure (ops.Update collection id operators))
  row_sure nodes next there (Command.Delete number collection id) = up_sure _ (write_sure (ops.Delete collection id))
  row_sure nodes next there (Command.Retry number session op) = up_sure _ (retry_sure session op)
  row_sure nodes next there (Command.Note number) = up_sure _ note_sure
  row_sure nodes next there (Command.Begin number writer op) = up_sure _ (begin_sure writer op)
  row_sure nodes next there (Command.Commit number writer) = up_sure _ (open_sure (maps.get node.writers writer) _ (λ at op. sure_of _ none))
  row_sure nodes next there (Command.Abort number writer) = up_sure _ (open_sure (maps.get node.writers writer) _ (λ at op. sure_of _ none))
  row_sure nodes next there (Command.StepDown number) = up_sure _ (outcome_if (is_secondary node.role) _ _ (sure_of _ none) (sure_of _ none))
  row_sure nodes next there (Command.Apply number workers) = up_sure _ (outcome_if (is_primary node.role) _ _ (sure_of _ none) (batch_sure (next_batch node)))
  row_sure nodes next there (Command.Flush number) = up_sure _ (plan_if (is_flushed node) _ _ (sure_of _ none) (sure_of _ none))
  row_sure nodes next there (Command.Checkpoint number) = up_sure _ (plan_if (same_optime (next_stable node) node.stable) _ _ (sure_of _ none) (sure_of _ none))
  row_sure nodes next there (Command.Reconfig number config) = up_sure _ (refuse (reconfig_refusal nodes node config) _ (sure_of _ none))
  row_sure nodes next there (Command.Crash number pick) = up_sure _ (sure_of _ none)
  row_sure nodes next there (Command.Restart number) =
      plan_if node.up _ _ (sure_of _ none) (plan_if (has_more (kept (settled_doubt node node.doubt there).records)) _ _ (sure_of _ refl) (sure_of _ refl))

-- ---- each message

module _ (node : Node) (none : node.doubt ≡ None) (from : ℕ) where
  counted_sure : (reason : Option VoteRefusal) → IsSure (vote_counted node from reason)
  counted_sure (Some reason) = sure_of _ none
  counted_sure None = outcome_if (is_elected (record node { tally = with_vote node.config node.tally from })) _ _ (sure_of _ none) (sure_of _ none)

  dry_counted_sure : (tally : DryTally) (reason : Option VoteRefusal) → IsSure (dry_counted node tally from reason)
  dry_counted_sure tally (Some reason) = sure_of _ none
  dry_counted_sure tally None = sure_of _ none

  dry_sure : (asked : ℕ) (reason : Option VoteRefusal) (tally : Option DryTally) → IsSure (dry_told node from asked reason tally)
  dry_sure asked reason None = sure_of _ none
  dry_sure asked reason (Some tally) = outcome_if (tally.term == asked && asked == node.term) _ _ (dry_counted_sure tally reason) (sure_of _ none)

  vote_sure : (asked : ℕ) (dry : Bool) (reason : Option VoteRefusal) → IsSure (vote_reply_told node from asked dry reason)
  vote_sure asked true reason = dry_sure asked reason node.dry_tally
  vote_sure asked false reason = outcome_if (not (is_candidate node.role)) _ _ (sure_of _ none) (outcome_if (not (asked == node.term)) _ _ (sure_of _ none) (counted_sure reason))

  back_sure : (point : OpTime) (reason : Option Ignored) → AreSure (roll_back node point reason)
  back_sure point (Some reason) = sure_of _ none
  back_sure point None = sure_of _ none

  told_sure : (next term : ℕ) (body : Body) → AreSure (told next from term body node)
  told_sure next term (Fetch base) = sure_of _ none
  told_sure next term (Fetched fetched) = outcome_if (not (is_secondary node.role)) _ _ (sure_of _ none) (outcome_if (not (continues (last_point node) fetched)) _ _ (sure_of _ none) (sure_of _ none))
  told_sure next term (Reported config durable) = outcome_if (nat_lt term node.term) _ _ (sure_of _ none) (outcome_if (not (is_primary node.role)) _ _ (sure_of _ none) (outcome_if (not (is_member node.config from)) _ _ (sure_of _ none) (sure_of _ none)))
  told_sure next term (Asks ask) = plan_if (not ask.dry && nat_lt node.term ask.asked) _ _ (sure_of _ none) (plan_if (not ask.dry && (ask.asked == node.term && is_some (vote_for from (vote_refusal node ask)))) _ _ (sure_of _ none) (sure_of _ none))
  told_sure next term (VoteReply asked dry reason) = vote_sure asked dry reason
  told_sure next term (Heartbeat beat) = plan_if (nat_lt term node.term) _ _ (sure_of _ none) (heard_sure node from beat (λ n. sending (reply.Replied next) n from (HeartbeatReply (beat_of n))) none (λ n fine. sure_of _ fine))
  told_sure next term (HeartbeatReply beat) = plan_if (nat_lt term node.term) _ _ (sure_of _ none) (heard_sure node from beat (λ n. replied reply.Heard n) none (λ n fine. sure_of _ fine))
  told_sure next term (CommonAsk after) = sure_of _ none
  told_sure next term (CommonReply after optimes visible) = back_sure (common_point node.log after optimes) (rollback_reason node term after optimes visible)

deliver_sure : (next : ℕ) (node : Node) (message : Message) → node.doubt ≡ None → AreSure (deliver next node message)
deliver_sure next node message none =
    up_sure node none _ (refuse node none (body_refusal node message.term message.body) _
    (plan_if (brings_term message.body && nat_lt node.term message.term) _ _ (told_sure (in_new_term (stored node (vote_record message.term None)) message.term None) none message.from next message.term message.body) (told_sure node none message.from next message.term message.body)))

-- ---- an event

-- no node has a store in doubt
abbrev pub AreCertain : World → Type 0
AreCertain world = (number : ℕ) (node : Node) → slice_get world.nodes number ≡ Some node → node.doubt ≡ None

task_sure : (world : World) (event : Event) (what : Task) (found : Option Node) → IfSome found (λ node. node.doubt ≡ None) → IfSome (option_and_then (plan_of world event what) found) AreSure
task_sure world event what None none = tt
task_sure world event (acts number) (Some node) none = row_sure node none (length world.nodes) (length world.messages) event.kept event.command
task_sure world event (takes message) (Some node) none = deliver_sure (length world.messages) node message none
task_sure world event nothing (Some node) none = tt

-- what holds of each node holds where one is set of which it holds
set_each : (P : Node → Type 0) (nodes : List Node) (place : ℕ) (new : Node) → P new → ((number : ℕ) (node : Node) → slice_get nodes number ≡ Some node → P node)
    → (number : ℕ) (node : Node) → slice_get (slice_set nodes place new) number ≡ Some node → P node
set_each P [] place new here each number node there = absurd (cc there)
set_each P (first ∷ nodes) zero new here each zero node there = subst P (same_Some new node there) here
set_each P (first ∷ nodes) zero new here each (suc number) node there = each (suc number) node there
set_each P (first ∷ nodes) (suc place) new here each zero node there = each zero node there
set_each P (first ∷ nodes) (suc place) new here each (suc number) node there = set_each P nodes place new here (λ n m is. each (suc n) m is) number node there

pub certain_step : (world : World) (event : Event) → event.failed ≡ None → AreCertain world → AreCertain (step world event).world
certain_step world event unfailed certain = go (event_plan world event) (task_sure world event (task world event.command) (slice_get world.nodes touched) (found (slice_get world.nodes touched) refl))
  where
    touched : ℕ
    touched = touched_node world event.command

    found : (one : Option Node) → slice_get world.nodes touched ≡ one → IfSome one (λ node. node.doubt ≡ None)
    found None is = tt
    found (Some node) is = certain touched node is

    go : (plan : Option Plan) → IfSome plan AreSure → AreCertain (by_plan world event plan).world
    go None sure = certain
    go (Some plan) sure = set_each (λ node. node.doubt ≡ None) world.nodes touched (done plan event.failed).node
        (ap (λ f. (done plan f).node.doubt) unfailed ∙ (done_sure plan sure).sure) certain

set_many : (nodes : List Node) (place : ℕ) (new : Node) → length nodes ≡ length (slice_set nodes place new)
set_many [] place new = refl
set_many (first ∷ nodes) zero new = refl
set_many (first ∷ nodes) (suc place) new = ap suc (set_many nodes place new)

pub as_many_after : (world : World) (event : Event) → length (step world event).world.nodes ≡ length world.nodes
as_many_after world event = go (event_plan world event)
  where
    go : (plan : Option Plan) → length (by_plan world event plan).world.nodes ≡ length world.nodes
    go None = refl
    go (Some plan) = sym (set_many world.nodes (touched_node world event.command) (done plan event.failed).node)

-- ---- the opening world

from_certain : (first : Config) (from count number : ℕ) (node : Node) → slice_get (nodes_from first from count) number ≡ Some node → node.doubt ≡ None
from_certain first from zero number node there = absurd (cc there)
from_certain first from (suc count) zero node there = subst (λ (n : Node). n.doubt ≡ None) (same_Some (opening_node first from) node there) refl
from_certain first from (suc count) (suc number) node there = from_certain first (from + 1) count number node there

pub certain_first : (sizes : Sizes) → AreCertain (opening sizes).world
certain_first sizes = from_certain (first_config sizes.voters sizes.members) 0 sizes.nodes

pub many_first : (sizes : Sizes) → length (opening sizes).world.nodes ≡ sizes.nodes
many_first sizes = count_from (first_config sizes.voters sizes.members) 0 sizes.nodes

-- ---- what was kept

sure_up : (up : Bool) (doubt : Option Store) → doubt ≡ None → (not up && is_some doubt) ≡ false
sure_up up (Some store) none = absurd (cc none)
sure_up true None none = refl
sure_up false None none = refl

never : (one two three : Bool) → three ≡ false → (one && two && three) ≡ false
never one two true is = absurd (cc is)
never true true false is = refl
never true false false is = refl
never false true false is = refl
never false false false is = refl

left_false : (kept settles : Bool) → settles ≡ false → (not kept || settles) ≡ true → kept ≡ false
left_false false settles is either = refl
left_false true true is either = absurd (cc is)
left_false true false is either = absurd (cc either)

pub none_kept : (world : World) (event : Event) → Fits world event → AreCertain world → event.kept ≡ false
none_kept world event fits certain =
    left_false event.kept (settles_doubt world event) (never (is_restart event.command) (passes_first event.failed) _ (in_doubt (slice_get world.nodes touched) refl)) fits.there
  where
    touched : ℕ
    touched = touched_node world event.command

    in_doubt : (found : Option Node) → slice_get world.nodes touched ≡ found → option_map_or is_in_doubt found false ≡ false
    in_doubt None is = refl
    in_doubt (Some node) is = sure_up node.up node.doubt (certain touched node is)
