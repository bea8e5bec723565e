-- A plan leaves a node's records and its stable optime as they are, except for what it stores, and what it
-- stores is short where it has to be.
use Rattle.std.proofs.Common.{◌≡◌, subst, [], ◌∷◌, ◌+◌, refl, ℕ, zero, suc, Bool, true, false, not, Option, None, Some, if◌then◌else◌, Result, Ok, Err, List}
use Rattle.std.specs.Prelude.{⊤}
use Rattle.std.specs.FinMap as maps
use Rattle.bson_doc.specs.Key.{key_of}
use Rattle.bson_doc.specs.View.{tree_of}
use Rattle.bson_doc.specs.declared.key.IdKey.{IdKey}
use Rattle.doc_update.specs.declared.write.WriteOp.{WriteOp}
use Rattle.doc_update.specs.declared.write.WriteOp.TheVariants as ops
use Rattle.doc_update.specs.declared.write.Prepared.{Prepared}
use Rattle.doc_update.specs.declared.write.Prepared.TheVariants.{NoMatch, Unchanged, Entry}
use Rattle.rs_optime.specs.declared.optime.OpTime.{OpTime}
use Rattle.member_config.specs.declared.config.Config.{Config}
use Rattle.member_config.specs.Numbers.{lowest}
use Rattle.oplog_entry.specs.declared.entry.Entry.{Entry as LogEntry}
use Rattle.oplog_entry.specs.declared.entry.Op.{Op}
use Rattle.oplog_entry.specs.declared.entry.Session.{Session}
use Rattle.repl_msg.specs.Fetching as fetching
use Rattle.repl_msg.specs.declared.message.FetchReply.{FetchReply}
use Rattle.repl_msg.specs.declared.record.Record.{Record}
use Rattle.set_model.specs.declared.command.AckConcern.{AckConcern}
use Rattle.set_model.specs.declared.command.ReadLevel.{ReadLevel}
use Rattle.set_model.specs.declared.command.Command.{Command}
use Rattle.set_model.specs.declared.command.Command.TheVariants.{Campaign, Drain, Insert, Replace, Update, Delete, Retry, Note, Begin, Commit, Abort, Ack, Read, Dump, Log, State, Rolled, DryRun, StepDown, Heartbeat, Report, Common, Fetch, Deliver, DeliverLatest, Apply, Flush, Checkpoint, Reconfig, Crash, Restart, DiskFail, Clock}
use Rattle.set_model.specs.declared.command.Target.{Target}
use Rattle.set_model.specs.declared.reply.Refusal.{Refusal}
use Rattle.set_model.specs.declared.role.Role.{Role}
use Rattle.set_model.specs.declared.role.Role.TheVariants.{Primary, Secondary, Candidate, Draining}
use Rattle.set_model.specs.declared.store.Store.{Store}
use Rattle.set_model.specs.declared.writer.Writer.{Writer}
use Rattle.set_model.specs.declared.writer.Writer.TheVariants as writers
use Rattle.set_model.specs.Admitted.{admitted}
use Rattle.set_model.specs.Concerns.{ack, ack_at, acked, ack_refusal, target_point}
use Rattle.set_model.specs.Disk.{apply, batch_applied, next_batch, flush, is_flushed, checkpoint, next_stable}
use Rattle.set_model.specs.Elections.{campaign, candidate, candidate_refusal, drain, step_down}
use Rattle.set_model.specs.Fetching.{fetch_from, sources, entries_told}
use Rattle.set_model.specs.Node.{Node}
use Rattle.set_model.specs.Outcome.{Outcome}
use Rattle.set_model.specs.Points.{if_primary, same_optime, last_point}
use Rattle.set_model.specs.Reads.{read_key}
use Rattle.set_model.specs.Reconfig.{reconfig, reconfig_refusal}
use Rattle.set_model.specs.Roles.{is_secondary, is_draining, is_primary}
use Rattle.set_model.specs.Rows.{row}
use Rattle.set_model.specs.Stores.{Plan, finished, storing, records_after, stable_after, stored, unless_refused, if_up, vote_record}
use Rattle.set_model.specs.Votes.{is_elected}
use Rattle.set_model.specs.Write.{note, retry, write, written}
use Rattle.set_model.specs.Writers.{begin, begun, unless_open, with_open, commit, abort}
use Rattle.set_model.proofs.RetryLemmas.{retry_cases}
use Rattle.node_state.specs.Bounds.{is_own}
use Rattle.node_core.specs.Putting.{IsShortStore}
use Rattle.node_state.specs.MessageContinuation.{message_plan, heard_outcome}
use Rattle.node_state.specs.Turns.{Means, rest_of}
use Rattle.node_state.specs.declared.turn.Answer.{Answer}
use Rattle.node_state.specs.declared.turn.HeardBeat.{HeardBeat}
use Rattle.node_state.specs.declared.turn.Continuation.{Continuation}
use Rattle.node_state.specs.declared.turn.Continuation.TheVariants as continuations
use Rattle.node_state.specs.declared.turn.MessageContinuation.{MessageContinuation}
use Rattle.node_state.specs.declared.turn.MessageContinuation.TheVariants as message_continuations
use Rattle.node_state.specs.declared.turn.Turn.{Turn}
use Rattle.node_state.specs.declared.turn.Turn.TheVariants.{Finished, Storing}

-- with what is in doubt
abbrev pub with_doubt : List Record → Option Store → List Record
with_doubt records None = records
with_doubt records (Some item) = records_after records item

abbrev pub at_doubt : OpTime → Option Store → OpTime
at_doubt stable None = stable
at_doubt stable (Some item) = stable_after stable item

abbrev pub IsDoubt : (Store → Type 0) → Option Store → Type 0
IsDoubt P None = ⊥
IsDoubt P (Some item) = P item

-- the outcome has these records and this stable optime
abbrev pub IsKept : List Record → OpTime → Outcome → Type 0
IsKept records stable outcome = (outcome.node.records ≡ records) × (outcome.node.stable ≡ stable)

-- at most so many stores, each of this kind, and no other record
abbrev pub Does : (Store → Type 0) → ℕ → List Record → OpTime → Plan → Type 0
Does P most records stable (finished outcome) = IsKept records stable outcome
Does P zero records stable (storing broken rest) = ⊥
Does P (suc most) records stable (storing broken rest) =
    (broken.records ≡ records) × (broken.stable ≡ stable) × IsDoubt P broken.doubt
    × Does P most (with_doubt records broken.doubt) (at_doubt stable broken.doubt) rest

-- ---- branches

pub kept_if : (r : List Record) (s : OpTime) (b : Bool) (x y : Outcome) → IsKept r s x → IsKept r s y → IsKept r s (if b then x else y)
kept_if r s true x y one other = one
kept_if r s false x y one other = other

pub does_if : (P : Store → Type 0) (m : ℕ) (r : List Record) (s : OpTime) (b : Bool) (x y : Plan) → Does P m r s x → Does P m r s y → Does P m r s (if b then x else y)
does_if P m r s true x y one other = one
does_if P m r s false x y one other = other

pub does_unless : (P : Store → Type 0) (m : ℕ) (node : Node) (why : Option Refusal) (plan : Plan) → Does P m node.records node.stable plan
    → Does P m node.records node.stable (unless_refused why node plan)
does_unless P m node (Some why) plan does = (refl, refl)
does_unless P m node None plan does = does

-- ---- what a turn then leaves

-- the node at which a turn stands
pub turn_kept : (P : Store → Type 0) (m : ℕ) (turn : Turn) (new : Node) (plan : Plan) (r : List Record) (s : OpTime) → Means turn new plan → Does P m r s plan
    → (new.records ≡ r) × (new.stable ≡ s)
turn_kept P m (Finished answer sent) new plan r s means does = subst (λ (p : Plan). Does P m r s p) means does
turn_kept P zero (Storing item later) new plan r s means does = absurd (subst (λ (p : Plan). Does P zero r s p) means does)
turn_kept P (suc m) (Storing item later) new plan r s means does =
    let d = subst (λ (p : Plan). Does P (suc m) r s p) means does in (d.0, d.1)

-- what it stores
pub turn_stores : (P : Store → Type 0) (m : ℕ) (item : Store) (later : Continuation) (new : Node) (plan : Plan) (r : List Record) (s : OpTime)
    → Means (Storing item later) new plan → Does P (suc m) r s plan → P item
turn_stores P m item later new plan r s means does = (subst (λ (p : Plan). Does P (suc m) r s p) means does).2

-- ---- how a row goes on

answered_kept : (answer : Option Answer) (node : Node) (r : List Record) (s : OpTime) → (node.records ≡ r) → (node.stable ≡ s)
    → IsKept r s (Rattle.node_state.specs.MessageContinuation.answered answer node)
answered_kept None node r s one other = (one, other)
answered_kept (Some answer) node r s one other = (one, other)

heard_kept : (hearing : HeardBeat) (node : Node) → IsKept node.records node.stable (heard_outcome hearing node)
heard_kept hearing node = answered_kept hearing.answer _ node.records node.stable refl refl

pub entries_kept : (node : Node) (from : ℕ) (fetched : FetchReply) → IsKept node.records node.stable (entries_told node from fetched)
entries_kept node from fetched =
    kept_if node.records node.stable (not (is_secondary node.role)) _ _ (refl, refl)
    (kept_if node.records node.stable (not (fetching.continues (last_point node) fetched)) _ _ (refl, refl) (refl, refl))

told_does : (told : MessageContinuation) (node : Node) → Does IsShortStore 1 node.records node.stable (message_plan told node)
told_does (message_continuations.Answered next sent) node = (refl, refl)
told_does (message_continuations.Fetched from fetched) node = entries_kept node from fetched
told_does (message_continuations.Heard None hearing) node = heard_kept hearing _
told_does (message_continuations.Heard (Some newer) hearing) node = (refl, refl, tt, heard_kept hearing _)
told_does (message_continuations.RolledBack point removed lost) node = (refl, refl, tt, (refl, refl))
told_does (message_continuations.Ignored why) node = (refl, refl)

pub rest_does : (later : Continuation) (node : Node) → Does IsShortStore 1 node.records node.stable (rest_of later node)
rest_does (continuations.Campaign next tally sent) node = kept_if node.records node.stable (is_elected (candidate node)) _ _ (refl, refl) (refl, refl)
rest_does (continuations.Drain config) node = (refl, refl)
rest_does (continuations.Flush count point) node = (refl, refl)
rest_does (continuations.Checkpoint at) node = (refl, refl)
rest_does (continuations.Reconfig config) node = (refl, refl)
rest_does (continuations.VoteInTerm next from ask why sent) node = (refl, refl)
rest_does (continuations.VoteGiven next from ask why sent) node = (refl, refl)
rest_does (continuations.TookTerm term told) node = told_does told _
rest_does (continuations.Installed config hearing) node = heard_kept hearing _
rest_does (continuations.Cut point removed lost) node = (refl, refl)

-- ---- rows

-- what a command may store
abbrev pub MayPut : Command → Store → Type 0
MayPut (Flush node) item = ⊤
MayPut (Checkpoint node) item = ⊤
MayPut _ item = IsShortStore item

primary_kept : (node : Node) (x y : Outcome) → IsKept node.records node.stable x → IsKept node.records node.stable y
    → IsKept node.records node.stable (if_primary node.role x y)
primary_kept node x y one other = go node.role
  where
    go : (role : Role) → IsKept node.records node.stable (if_primary role x y)
    go Primary = one
    go Secondary = other
    go Candidate = other
    go Draining = other

written_kept : (node : Node) (session : Option Session) (prepared : Result Prepared Refusal) → IsKept node.records node.stable (written node session prepared)
written_kept node session (Err why) = (refl, refl)
written_kept node session (Ok NoMatch) = (refl, refl)
written_kept node session (Ok Unchanged) = (refl, refl)
written_kept node session (Ok (Entry op after)) = (refl, refl)

write_kept : (node : Node) (op : WriteOp) → IsKept node.records node.stable (write node op)
write_kept node op = primary_kept node _ _ (written_kept node None (admitted node op)) (refl, refl)

retry_kept : (node : Node) (session : Session) (op : WriteOp) → IsKept node.records node.stable (retry node session op)
retry_kept node session op =
    retry_cases (IsKept node.records node.stable) node session op (λ why. (refl, refl)) (λ last found same. (refl, refl))
    (λ primary past. written_kept node (Some session) (admitted node op))

note_kept : (node : Node) → IsKept node.records node.stable (note node)
note_kept node = primary_kept node _ _ (refl, refl) (refl, refl)

begun_kept : (node : Node) (writer : ℕ) (prepared : Result Prepared Refusal) → IsKept node.records node.stable (begun node writer prepared)
begun_kept node writer (Err why) = (refl, refl)
begun_kept node writer (Ok NoMatch) = (refl, refl)
begun_kept node writer (Ok Unchanged) = (refl, refl)
begun_kept node writer (Ok (Entry op after)) = (refl, refl)

unless_open_kept : (node : Node) (found : Option Writer) (x : Outcome) → IsKept node.records node.stable x → IsKept node.records node.stable (unless_open node found x)
unless_open_kept node (Some (writers.Open at op)) x kept = (refl, refl)
unless_open_kept node (Some (writers.Done at)) x kept = kept
unless_open_kept node (Some (writers.Lost term)) x kept = kept
unless_open_kept node None x kept = kept

begin_kept : (node : Node) (writer : ℕ) (op : WriteOp) → IsKept node.records node.stable (begin node writer op)
begin_kept node writer op =
    primary_kept node _ _ (unless_open_kept node (maps.get node.writers writer) _ (begun_kept node writer (admitted node op))) (refl, refl)

with_open_kept : (node : Node) (found : Option Writer) (done : OpTime → Op → Outcome) → ((at : OpTime) (op : Op) → IsKept node.records node.stable (done at op))
    → IsKept node.records node.stable (with_open node found done)
with_open_kept node (Some (writers.Open at op)) done kept = kept at op
with_open_kept node (Some (writers.Lost term)) done kept = (refl, refl)
with_open_kept node (Some (writers.Done at)) done kept = (refl, refl)
with_open_kept node None done kept = (refl, refl)

commit_kept : (node : Node) (writer : ℕ) → IsKept node.records node.stable (commit node writer)
commit_kept node writer = with_open_kept node (maps.get node.writers writer) _ (λ at op. (refl, refl))

abort_kept : (node : Node) (writer : ℕ) → IsKept node.records node.stable (abort node writer)
abort_kept node writer = with_open_kept node (maps.get node.writers writer) _ (λ at op. (refl, refl))

acked_kept : (node : Node) (at : OpTime) (why : Option Refusal) → IsKept node.records node.stable (acked node at why)
acked_kept node at (Some why) = (refl, refl)
acked_kept node at None = (refl, refl)

ack_at_kept : (node : Node) (concern : AckConcern) (found : Result OpTime Refusal) → IsKept node.records node.stable (ack_at node concern found)
ack_at_kept node concern (Err why) = (refl, refl)
ack_at_kept node concern (Ok at) = acked_kept node at (ack_refusal node at concern)

ack_kept : (node : Node) (target : Target) (concern : AckConcern) → IsKept node.records node.stable (ack node target concern)
ack_kept node target concern = ack_at_kept node concern (target_point node target)

read_key_kept : (node : Node) (level : ReadLevel) (collection : List ℕ) (key : Option IdKey) → IsKept node.records node.stable (read_key node level collection key)
read_key_kept node level collection None = (refl, refl)
read_key_kept node level collection (Some key) = (refl, refl)

fetch_kept : (next : ℕ) (node : Node) (source : Option ℕ) → IsKept node.records node.stable (fetch_from next node source)
fetch_kept next node None = (refl, refl)
fetch_kept next node (Some source) = (refl, refl)

batch_kept : (node : Node) (entries : List LogEntry) → IsKept node.records node.stable (batch_applied node entries)
batch_kept node [] = (refl, refl)
batch_kept node (entry ∷ entries) = (refl, refl)

apply_kept : (node : Node) → IsKept node.records node.stable (apply node)
apply_kept node = kept_if node.records node.stable (is_primary node.role) _ _ (refl, refl) (batch_kept node (next_batch node))

step_down_kept : (node : Node) → IsKept node.records node.stable (step_down node)
step_down_kept node = kept_if node.records node.stable (is_secondary node.role) _ _ (refl, refl) (refl, refl)

-- while the node is up
pub up_does : (P : Store → Type 0) (m : ℕ) (node : Node) (plan : Plan) → Does P m node.records node.stable plan → Does P m node.records node.stable (if_up node plan)
up_does P m node plan does = does_if P m node.records node.stable node.up plan _ does (refl, refl)

campaign_does : (next : ℕ) (node : Node) → Does IsShortStore 1 node.records node.stable (campaign next node)
campaign_does next node =
    let item = vote_record (node.term + 1) (Some node.number) in
    let n = candidate (stored node item) in
    does_unless IsShortStore 1 node (candidate_refusal node) _
    (refl, refl, tt, kept_if (records_after node.records item) node.stable (is_elected n) _ _ (refl, refl) (refl, refl))

drain_does : (node : Node) → Does IsShortStore 1 node.records node.stable (drain node)
drain_does node = does_if IsShortStore 1 node.records node.stable (is_draining node.role) _ _ (refl, refl, tt, (refl, refl)) (refl, refl)

reconfig_does : (nodes : ℕ) (node : Node) (config : Config) → Does IsShortStore 1 node.records node.stable (reconfig nodes node config)
reconfig_does nodes node config = does_unless IsShortStore 1 node (reconfig_refusal nodes node config) _ (refl, refl, tt, (refl, refl))

flush_does : (P : Store → Type 0) → ((item : Store) → P item) → (node : Node) → Does P 1 node.records node.stable (flush node)
flush_does P any node = does_if P 1 node.records node.stable (is_flushed node) _ _ (refl, refl) (refl, refl, any _, (refl, refl))

checkpoint_does : (P : Store → Type 0) → ((item : Store) → P item) → (node : Node) → Does P 1 node.records node.stable (checkpoint node)
checkpoint_does P any node =
    does_if P 1 node.records node.stable (same_optime (next_stable node) node.stable) _ _ (refl, refl) (refl, refl, any _, (refl, refl))

own_not : false ≡ true → ⊥
own_not h = cc

pub row_does : (nodes next : ℕ) (node : Node) (command : Command) → is_own command ≡ true
    → Does (MayPut command) 1 node.records node.stable (row nodes next false node command)
row_does nodes next node (Campaign number) own = up_does _ 1 node _ (campaign_does next node)
row_does nodes next node (Drain number) own = up_does _ 1 node _ (drain_does node)
row_does nodes next node (Insert number collection document) own = up_does _ 1 node _ (write_kept node (ops.Insert collection document))
row_does nodes next node (Replace number collection id document) own = up_does _ 1 node _ (write_kept node (ops.Replace collection id document))
row_does nodes next node (Update number collection id operators) own = up_does _ 1 node _ (write_kept node (ops.Update collection id operators))
row_does nodes next node (Delete number collection id) own = up_does _ 1 node _ (write_kept node (ops.Delete collection id))
row_does nodes next node (Retry number session op) own = up_does _ 1 node _ (retry_kept node session op)
row_does nodes next node (Note number) own = up_does _ 1 node _ (note_kept node)
row_does nodes next node (Begin number writer op) own = up_does _ 1 node _ (begin_kept node writer op)
row_does nodes next node (Commit number writer) own = up_does _ 1 node _ (commit_kept node writer)
row_does nodes next node (Abort number writer) own = up_does _ 1 node _ (abort_kept node writer)
row_does nodes next node (Ack number target concern) own = up_does _ 1 node _ (ack_kept node target concern)
row_does nodes next node (Read number level collection id) own = up_does _ 1 node _ (read_key_kept node level collection (key_of (tree_of id)))
row_does nodes next node (Dump number level) own = up_does _ 1 node _ (refl, refl)
row_does nodes next node (Log number) own = up_does _ 1 node _ (refl, refl)
row_does nodes next node (State number) own = up_does _ 1 node _ (refl, refl)
row_does nodes next node (Rolled number) own = up_does _ 1 node _ (refl, refl)
row_does nodes next node (DryRun number) own = up_does _ 1 node _ (does_unless _ 1 node (candidate_refusal node) _ (refl, refl))
row_does nodes next node (StepDown number) own = up_does _ 1 node _ (step_down_kept node)
row_does nodes next node (Heartbeat number to) own = up_does _ 1 node _ (refl, refl)
row_does nodes next node (Report number to) own = up_does _ 1 node _ (refl, refl)
row_does nodes next node (Common number to) own = up_does _ 1 node _ (refl, refl)
row_does nodes next node (Fetch number) own = up_does _ 1 node _ (fetch_kept next node (lowest (sources node)))
row_does nodes next node (Apply number workers) own = up_does _ 1 node _ (apply_kept node)
row_does nodes next node (Flush number) own = up_does _ 1 node _ (flush_does (MayPut (Flush number)) (λ item. tt) node)
row_does nodes next node (Checkpoint number) own = up_does _ 1 node _ (checkpoint_does (MayPut (Checkpoint number)) (λ item. tt) node)
row_does nodes next node (Reconfig number config) own = up_does _ 1 node _ (reconfig_does nodes node config)
row_does nodes next node (Clock number seconds) own = (refl, refl)
row_does nodes next node (Deliver message) own = absurd (own_not own)
row_does nodes next node (DeliverLatest from to) own = absurd (own_not own)
row_does nodes next node (Crash number pick) own = absurd (own_not own)
row_does nodes next node (Restart number) own = absurd (own_not own)
row_does nodes next node (DiskFail number disk call pick) own = absurd (own_not own)
