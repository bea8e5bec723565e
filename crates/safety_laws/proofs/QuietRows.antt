-- What the reply to each row says about what it changed: with a quiet reply it leaves the node as it was, its
-- disks have what it stored, and if a store fails that one is in doubt.
use Rattle.std.proofs.Common.{◌≡◌, ◌⊎◌, inl, inr, arith, eq-eqb, ltb-false, ap, sym, subst, refl, ℕ, zero, suc, Bool, true, false, not, ◌&&◌, nat_lt, ◌==◌, ◌+◌, Option, None, Some, if◌then◌else◌, Result, Ok, Err, List, [], ◌∷◌, ◌++◌, length}
use Rattle.std.specs.Prelude.{⊤, nat_le, ◌≤◌}
use Rattle.std.specs.FinMap as maps
use Rattle.bson_doc.specs.Key.{key_of}
use Rattle.bson_doc.specs.Place.{Place}
use Rattle.bson_doc.specs.Tree.{Tree, Fields}
use Rattle.bson_doc.specs.View.{tree_of}
use Rattle.bson_doc.specs.declared.key.IdKey.{IdKey}
use Rattle.doc_update.specs.Check.{checked}
use Rattle.doc_update.specs.Effect.{prepared}
use Rattle.doc_update.specs.Refusal as reasons
use Rattle.doc_update.specs.Refusal.{Reason}
use Rattle.doc_update.specs.declared.write.Prepared.{Prepared}
use Rattle.doc_update.specs.declared.write.Prepared.TheVariants as effects
use Rattle.doc_update.specs.declared.write.WriteOp.{WriteOp}
use Rattle.doc_update.specs.declared.write.WriteOp.TheVariants as ops
use Rattle.member_config.specs.declared.config.Config.{Config}
use Rattle.member_config.specs.Config.{in_term}
use Rattle.member_config.specs.Numbers.{lowest}
use Rattle.member_config.specs.Rule.{rule}
use Rattle.member_config.specs.Voters.{majority, numbers, voters, is_voter, is_electable_in, is_one_voter_apart}
use Rattle.oplog_entry.specs.Docs.{docs}
use Rattle.oplog_entry.specs.declared.entry.Entry.{Entry}
use Rattle.oplog_entry.specs.declared.entry.Op.{Op}
use Rattle.oplog_entry.specs.declared.entry.Session.{Session}
use Rattle.repl_msg.specs.Kept.{kept}
use Rattle.repl_msg.specs.declared.record.Record.TheVariants as records
use Rattle.rs_optime.specs.Order.{is_before}
use Rattle.rs_optime.specs.declared.optime.OpTime.{OpTime}
use Rattle.set_model.specs.declared.command.AckConcern.{AckConcern}
use Rattle.set_model.specs.declared.command.AckConcern.TheVariants as concerns
use Rattle.set_model.specs.declared.command.Command.{Command}
use Rattle.set_model.specs.declared.command.ReadLevel.{ReadLevel}
use Rattle.set_model.specs.declared.command.Target.{Target}
use Rattle.set_model.specs.declared.command.Target.TheVariants as targets
use Rattle.set_model.specs.declared.reply.Refusal.{Refusal}
use Rattle.set_model.specs.declared.reply.Refusal.TheVariants as why
use Rattle.set_model.specs.declared.reply.Reply.{Reply}
use Rattle.set_model.specs.declared.reply.Reply.TheVariants as reply
use Rattle.set_model.specs.declared.role.Role.{Role}
use Rattle.set_model.specs.declared.role.Role.TheVariants as roles
use Rattle.set_model.specs.declared.session.LastWrite.{LastWrite}
use Rattle.set_model.specs.declared.store.Store.{Store}
use Rattle.set_model.specs.declared.store.Store.TheVariants as stores
use Rattle.set_model.specs.declared.writer.Writer.{Writer}
use Rattle.set_model.specs.declared.writer.Writer.TheVariants as writers
use Rattle.set_model.specs.Admitted.{admitted, or_refused, refusal_of, unless_held}
use Rattle.set_model.specs.Concerns.{ack, ack_at, acked, ack_refusal, held, target_point, unmet, written_by}
use Rattle.set_model.specs.Disk.{apply, batch_applied, next_batch, flush, is_flushed, next_entries, next_durable, checkpoint, next_stable, restart, recovered, came_back, settled_doubt, has_more}
use Rattle.set_model.specs.Elections.{campaign, candidate, candidate_refusal, dry_run, drain, step_down}
use Rattle.set_model.specs.Fetching.{fetch, fetch_from, sources}
use Rattle.set_model.specs.Holds.{holder}
use Rattle.set_model.specs.Limits.{is_restart}
use Rattle.set_model.specs.Node.{Node}
use Rattle.set_model.specs.Outcome.{Outcome, replied, refused}
use Rattle.set_model.specs.Points.{if_primary, has_entry, same_optime}
use Rattle.set_model.specs.Reads.{read, read_key, shown_documents, document_reply}
use Rattle.set_model.specs.Reconfig.{reconfig, reconfig_refusal, change_refusal, committed_refusal, config_held, commit_held, unless_broken, unless_unknown, unknown_member}
use Rattle.set_model.specs.Rollback.{cut_record}
use Rattle.set_model.specs.Roles.{is_draining, is_leading, is_primary, is_secondary}
use Rattle.set_model.specs.Rows.{row}
use Rattle.set_model.specs.Stores.{Plan, done, finished, storing, in_doubt, stored, then_stored, unless_refused, if_up, config_record, vote_record}
use Rattle.set_model.specs.Votes.{is_elected}
use Rattle.set_model.specs.Sessions.{last_write}
use Rattle.set_model.specs.Write.{write, write_in, written, retried, retry, note}
use Rattle.set_model.specs.Writers.{begin, begun, unless_open, with_open, commit}
use Rattle.set_model.proofs.RetryLemmas.{primary_cases}
use Rattle.safety_laws.specs.Quiet.{is_disk_failure, is_question, with_stores}

-- ---- replies

-- what a reply tells of a change
pub data Kind : Type 0 where
  changes : Kind
  still : Kind
  ignores : Kind
  fails : Kind

abbrev pub kind_of : Reply → Kind
kind_of (reply.Refused reason) = if is_disk_failure reason then fails else still
kind_of (reply.Acked at) = still
kind_of (reply.Found document) = still
kind_of reply.Missing = still
kind_of (reply.Documents documents) = still
kind_of (reply.Rolled documents) = still
kind_of (reply.Entries entries) = still
kind_of (reply.State role term vote last durable applied commit config rollback) = still
kind_of reply.NoMatch = still
kind_of reply.Unchanged = still
kind_of (reply.VoteRefused reason) = still
kind_of reply.Armed = still
kind_of (reply.Ignored reason) = ignores
kind_of _ = changes

-- what an outcome of that kind owes, of a row that began at `base` and of a node that is `node` at the end of its stores
abbrev pub Owes : (base node : Node) → Outcome → Kind → Type 0
Owes base node outcome changes = ⊤
Owes base node outcome still = (outcome.node ≡ base) × (outcome.sent ≡ [])
Owes base node outcome ignores = (outcome.node ≡ node) × (outcome.sent ≡ [])
Owes base node outcome fails = ⊥

pub record IsTame (base : Node) (earlier : List Store) (node : Node) (outcome : Outcome) : Type 0 where
  pub owes : Owes base node outcome (kind_of outcome.reply)
  pub records : outcome.node.records ≡ (with_stores base earlier).records
  pub stable : outcome.node.stable ≡ (with_stores base earlier).stable

-- every store is told, and the end is tame
abbrev pub AreTame : (base : Node) (earlier : List Store) (node : Node) → Plan → Type 0
AreTame base earlier node (finished outcome) = IsTame base earlier node outcome
AreTame base earlier node (storing broken rest) =
    (store : Store) × (broken ≡ in_doubt (with_stores base earlier) store) × AreTame base (earlier ++ store ∷ []) node rest

-- ---- by cases

tame_if : (base node : Node) (test : Bool) (one two : Plan) → AreTame base [] node one → AreTame base [] node two → AreTame base [] node (if test then one else two)
tame_if base node true one two tame other = tame
tame_if base node false one two tame other = other

pub end_if : (base : Node) (earlier : List Store) (node : Node) (test : Bool) (one two : Outcome) → IsTame base earlier node one → IsTame base earlier node two → IsTame base earlier node (if test then one else two)
end_if base earlier node true one two tame other = tame
end_if base earlier node false one two tame other = other

outcome_if : (node : Node) (test : Bool) (one two : Outcome) → IsTame node [] node one → IsTame node [] node two → IsTame node [] node (if test then one else two)
outcome_if node = end_if node [] node

-- a refusal that no disk is the reason of
abbrev pub Works : Option Refusal → Type 0
Works None = ⊤
Works (Some reason) = is_disk_failure reason ≡ false

abbrev WorksOr : {A : Type 0} → Result A Refusal → Type 0
WorksOr (Ok value) = ⊤
WorksOr (Err reason) = is_disk_failure reason ≡ false

pub works_if : (test : Bool) (one two : Option Refusal) → Works one → Works two → Works (if test then one else two)
works_if true one two works other = works
works_if false one two works other = other

refusal_at : (base node : Node) (reason : Refusal) → is_disk_failure reason ≡ false → IsTame base [] node (refused reason base)
refusal_at base node reason works = record { owes = by (is_disk_failure reason) works; records = refl; stable = refl }
  where
    by : (b : Bool) → b ≡ false → Owes base node (refused reason base) (if b then fails else still)
    by true is = absurd (cc is)
    by false is = (refl, refl)

refusal : (node : Node) (reason : Refusal) → is_disk_failure reason ≡ false → IsTame node [] node (refused reason node)
refusal node = refusal_at node node

pub tame_unless : (base node : Node) (reason : Option Refusal) (plan : Plan) → Works reason → AreTame base [] node plan → AreTame base [] node (unless_refused reason base plan)
tame_unless base node (Some reason) plan works tame = refusal_at base node reason works
tame_unless base node None plan works tame = tame

pub tame_up : (base node : Node) (plan : Plan) → AreTame base [] node plan → AreTame base [] node (if_up base plan)
tame_up base node plan tame = tame_if base node base.up plan _ tame (refusal_at base node why.NodeDown refl)

-- the node is another, on the same disks
other : (node : Node) (outcome : Outcome) → kind_of outcome.reply ≡ changes → outcome.node.records ≡ node.records → outcome.node.stable ≡ node.stable → IsTame node [] node outcome
other node outcome is records stable = record { owes = subst (Owes node node outcome) (sym is) tt; records = records; stable = stable }

-- the node shows something of itself, or refuses to
pub record IsAnswer (node : Node) (outcome : Outcome) : Type 0 where
  pub is : kind_of outcome.reply ≡ still
  pub node_is : outcome.node ≡ node
  pub sent : outcome.sent ≡ []

answer_refused : (node : Node) (reason : Refusal) → is_disk_failure reason ≡ false → IsAnswer node (refused reason node)
answer_refused node reason works = record { is = ap (λ (b : Bool). if b then fails else still) works; node_is = refl; sent = refl }

tame_answer : (node : Node) (outcome : Outcome) → IsAnswer node outcome → IsTame node [] node outcome
tame_answer node outcome answer = record {
  owes = subst (Owes node node outcome) (sym answer.is) (answer.node_is, answer.sent);
  records = ap (λ (n : Node). n.records) answer.node_is;
  stable = ap (λ (n : Node). n.stable) answer.node_is;
}

-- ---- why not

reason_works : (reason : Reason) → is_disk_failure (refusal_of reason) ≡ false
reason_works reasons.DuplicateKey = refl
reason_works reasons.NoId = refl
reason_works reasons.BadIdKind = refl
reason_works reasons.ImmutableId = refl
reason_works reasons.IncType = refl
reason_works reasons.IncOverflow = refl
reason_works reasons.DocTooLarge = refl
reason_works (reasons.BadUpdate rule) = refl

admitted_works : (node : Node) (op : WriteOp) → WorksOr (admitted node op)
admitted_works node op = by_place (checked op) refl
  where
    by_effect : (effect : Result Prepared Reason) → WorksOr (or_refused effect)
    by_effect (Ok effect) = tt
    by_effect (Err reason) = reason_works reason

    by_holder : (writer : Option ℕ) (effect : Result Prepared Reason) → WorksOr (unless_held writer (or_refused effect))
    by_holder (Some writer) effect = refl
    by_holder None effect = by_effect effect

    by_place : (found : Result Place Reason) → checked op ≡ found → WorksOr (admitted node op)
    by_place (Err reason) is =
        let refused : admitted node op ≡ Err (refusal_of reason) = rw is refl in
        subst WorksOr (sym refused) (reason_works reason)
    by_place (Ok place) is =
        let goes : admitted node op ≡ unless_held (holder node place) (or_refused (prepared op (maps.get (docs node.log) place))) = rw is refl in
        subst WorksOr (sym goes) (by_holder (holder node place) (prepared op (maps.get (docs node.log) place)))

candidate_works : (node : Node) → Works (candidate_refusal node)
candidate_works node =
    works_if (not (is_electable_in node.config node.number)) _ _ refl (works_if (is_leading node.role) (Some (why.NotElectable 2)) None refl tt)

committed_works : (node : Node) → Works (committed_refusal node)
committed_works node =
    works_if (nat_lt (config_held node) (majority node.config)) _ _ refl (works_if (not (node.commit.term == node.term)) _ _ refl
    (works_if (nat_lt (commit_held node) (majority node.config)) (Some (why.OplogNotCommitted (commit_held node) (majority node.config))) None refl tt))

change_works : (node : Node) (config : Config) → Works (change_refusal node config)
change_works node config =
    works_if (nat_le config.version node.config.version) _ _ refl (works_if (not (is_voter config node.number && is_electable_in config node.number)) _ _ refl
    (works_if (not (is_one_voter_apart node.config config)) _ _ refl (committed_works node)))

reconfig_works : (nodes : ℕ) (node : Node) (config : Config) → Works (reconfig_refusal nodes node config)
reconfig_works nodes node config = works_if (not (is_primary node.role)) _ _ refl (by_rule (rule config))
  where
    by_member : (number : Option ℕ) → Works (unless_unknown number (change_refusal node config))
    by_member (Some number) = refl
    by_member None = change_works node config

    by_rule : (broken : Option ℕ) → Works (unless_broken broken (unless_unknown (unknown_member nodes config) (change_refusal node config)))
    by_rule (Some broken) = refl
    by_rule None = by_member (unknown_member nodes config)

unmet_works : (node : Node) (at : OpTime) (concern : AckConcern) → Works (unmet node at concern)
unmet_works node at concerns.Majority =
    works_if (is_before node.commit at) (Some (why.Waiting (held node at (voters node.config)) (majority node.config))) None refl tt
unmet_works node at (concerns.Count count) =
    works_if (nat_lt (length node.config.members) count) _ _ refl
    (works_if (nat_lt (held node at (numbers node.config)) count) (Some (why.Waiting (held node at (numbers node.config)) count)) None refl tt)

ack_works : (node : Node) (at : OpTime) (concern : AckConcern) → Works (ack_refusal node at concern)
ack_works node at concern =
    works_if (not (is_primary node.role)) _ _ refl (works_if (not (at.term == node.term)) _ _ refl
    (works_if (not (has_entry node.log at)) _ _ refl (unmet_works node at concern)))

target_works : (node : Node) (target : Target) → WorksOr (target_point node target)
target_works node (targets.At at) = tt
target_works node (targets.Writer writer) = by (maps.get node.writers writer)
  where
    by : (found : Option Writer) → WorksOr (written_by found)
    by None = refl
    by (Some (writers.Open at op)) = refl
    by (Some (writers.Lost term)) = refl
    by (Some (writers.Done at)) = tt

-- ---- questions

ack_answers : (node : Node) (target : Target) (concern : AckConcern) → IsAnswer node (ack node target concern)
ack_answers node target concern = go (target_point node target) (target_works node target)
  where
    met : (at : OpTime) (reason : Option Refusal) → Works reason → IsAnswer node (acked node at reason)
    met at (Some reason) works = answer_refused node reason works
    met at None works = record { is = refl; node_is = refl; sent = refl }

    go : (found : Result OpTime Refusal) → WorksOr found → IsAnswer node (ack_at node concern found)
    go (Err reason) works = answer_refused node reason works
    go (Ok at) works = met at (ack_refusal node at concern) (ack_works node at concern)

read_answers : (node : Node) (level : ReadLevel) (collection : List ℕ) (id : Tree) → IsAnswer node (read node level collection id)
read_answers node level collection id = go (key_of id)
  where
    found : (document : Option Fields) → IsAnswer node (replied (document_reply document) node)
    found None = record { is = refl; node_is = refl; sent = refl }
    found (Some document) = record { is = refl; node_is = refl; sent = refl }

    go : (key : Option IdKey) → IsAnswer node (read_key node level collection key)
    go None = answer_refused node why.BadIdKind refl
    go (Some key) = found (maps.get (shown_documents node level) (collection, key))

abbrev pub AreAnswers : Node → Plan → Type 0
AreAnswers node (finished outcome) = IsAnswer node outcome
AreAnswers node (storing broken rest) = ⊥

answers_up : (node : Node) (outcome : Outcome) → IsAnswer node outcome → AreAnswers node (if_up node (finished outcome))
answers_up node outcome answer = by node.up
  where
    by : (up : Bool) → AreAnswers node (if up then finished outcome else finished (refused why.NodeDown node))
    by true = answer
    by false = answer_refused node why.NodeDown refl

pub question_answers : (nodes next : ℕ) (there : Bool) (node : Node) (command : Command) → is_question command ≡ true → AreAnswers node (row nodes next there node command)
question_answers nodes next there node (Command.Ack number target concern) is = answers_up node _ (ack_answers node target concern)
question_answers nodes next there node (Command.Read number level collection id) is = answers_up node _ (read_answers node level collection (tree_of id))
question_answers nodes next there node (Command.Dump number level) is = answers_up node _ (record { is = refl; node_is = refl; sent = refl })
question_answers nodes next there node (Command.Log number) is = answers_up node _ (record { is = refl; node_is = refl; sent = refl })
question_answers nodes next there node (Command.State number) is = answers_up node _ (record { is = refl; node_is = refl; sent = refl })
question_answers nodes next there node (Command.Rolled number) is = answers_up node _ (record { is = refl; node_is = refl; sent = refl })
question_answers nodes next there node command is = absurd (cc is)

-- ---- writes

written_tame : (node : Node) (session : Option Session) (found : Result Prepared Refusal) → WorksOr found → IsTame node [] node (written node session found)
written_tame node session (Err reason) works = refusal node reason works
written_tame node session (Ok effects.NoMatch) works = record { owes = (refl, refl); records = refl; stable = refl }
written_tame node session (Ok effects.Unchanged) works = record { owes = (refl, refl); records = refl; stable = refl }
written_tame node session (Ok (effects.Entry op after)) works = other node _ refl refl refl

write_tame : (node : Node) (op : WriteOp) → IsTame node [] node (write node op)
write_tame node op = primary_cases (IsTame node [] node) node _ (refusal node why.NotPrimary refl) (λ primary. written_tame node None (admitted node op) (admitted_works node op))

retry_tame : (node : Node) (session : Session) (op : WriteOp) → IsTame node [] node (retry node session op)
retry_tame node session op = primary_cases (IsTame node [] node) node _ (refusal node why.NotPrimary refl) (λ primary. by_last (last_write session.id node.log))
  where
    by_last : (last : Option LastWrite) → IsTame node [] node (retried node session op last)
    by_last None = written_tame node (Some session) (admitted node op) (admitted_works node op)
    by_last (Some last) =
        outcome_if node (nat_lt session.number last.number) _ _ (refusal node (why.OldNumber last.number) refl)
        (outcome_if node (last.number == session.number) _ _ (other node _ refl refl refl) (written_tame node (Some session) (admitted node op) (admitted_works node op)))

note_tame : (node : Node) → IsTame node [] node (note node)
note_tame node = primary_cases (IsTame node [] node) node _ (refusal node why.NotPrimary refl) (λ primary. other node _ refl refl refl)

begin_tame : (node : Node) (writer : ℕ) (op : WriteOp) → IsTame node [] node (begin node writer op)
begin_tame node writer op = go node.role (maps.get node.writers writer)
  where
    effect : (found : Result Prepared Refusal) → WorksOr found → IsTame node [] node (begun node writer found)
    effect (Err reason) works = refusal node reason works
    effect (Ok effects.NoMatch) works = record { owes = (refl, refl); records = refl; stable = refl }
    effect (Ok effects.Unchanged) works = record { owes = (refl, refl); records = refl; stable = refl }
    effect (Ok (effects.Entry entry after)) works = other node _ refl refl refl

    go : (role : Role) (found : Option Writer) → IsTame node [] node (if_primary role (unless_open node found (begun node writer (admitted node op))) (refused why.NotPrimary node))
    go roles.Primary (Some (writers.Open at entry)) = refusal node why.WriterOpen refl
    go roles.Primary (Some (writers.Done at)) = effect (admitted node op) (admitted_works node op)
    go roles.Primary (Some (writers.Lost term)) = effect (admitted node op) (admitted_works node op)
    go roles.Primary None = effect (admitted node op) (admitted_works node op)
    go roles.Secondary found = refusal node why.NotPrimary refl
    go roles.Candidate found = refusal node why.NotPrimary refl
    go roles.Draining found = refusal node why.NotPrimary refl

open_tame : (node : Node) (found : Option Writer) (with_it : OpTime → Op → Outcome) → ((at : OpTime) (op : Op) → IsTame node [] node (with_it at op)) → IsTame node [] node (with_open node found with_it)
open_tame node (Some (writers.Open at op)) with_it tame = tame at op
open_tame node (Some (writers.Lost term)) with_it tame = refusal node (why.SteppedDown term) refl
open_tame node (Some (writers.Done at)) with_it tame = refusal node why.NoSuchWriter refl
open_tame node None with_it tame = refusal node why.NoSuchWriter refl

fetch_tame : (next : ℕ) (node : Node) → IsTame node [] node (fetch next node)
fetch_tame next node = go (lowest (sources node))
  where
    go : (source : Option ℕ) → IsTame node [] node (fetch_from next node source)
    go None = refusal node why.NoSource refl
    go (Some source) = other node _ refl refl refl

-- ---- what is stored

campaign_tame : (next : ℕ) (node : Node) → AreTame node [] node (campaign next node)
campaign_tame next node = tame_unless node node (candidate_refusal node) _ (candidate_works node) (
  vote_record (node.term + 1) (Some node.number),
  refl,
  end_if node (vote_record (node.term + 1) (Some node.number) ∷ []) node (is_elected (candidate (stored node (vote_record (node.term + 1) (Some node.number))))) _ _
      (record { owes = tt; records = refl; stable = refl }) (record { owes = tt; records = refl; stable = refl }),
)

dry_run_tame : (next : ℕ) (node : Node) → AreTame node [] node (dry_run next node)
dry_run_tame next node = tame_unless node node (candidate_refusal node) _ (candidate_works node) (other node _ refl refl refl)

step_down_tame : (node : Node) → IsTame node [] node (step_down node)
step_down_tame node = outcome_if node (is_secondary node.role) _ _ (refusal node why.NotPrimary refl) (other node _ refl refl refl)

drain_tame : (node : Node) → AreTame node [] node (drain node)
drain_tame node = tame_if node node (is_draining node.role) _ _ (config_record (in_term node.config node.term), refl, record { owes = tt; records = refl; stable = refl }) (refusal node why.NotPrimary refl)

apply_tame : (node : Node) → IsTame node [] node (apply node)
apply_tame node = outcome_if node (is_primary node.role) _ _ (refusal node why.NothingToDo refl) (go (next_batch node))
  where
    go : (batch : List Entry) → IsTame node [] node (batch_applied node batch)
    go [] = refusal node why.NothingToDo refl
    go (entry ∷ entries) = other node _ refl refl refl

flush_tame : (node : Node) → AreTame node [] node (flush node)
flush_tame node = tame_if node node (is_flushed node) _ _ (refusal node why.NothingToDo refl) (stores.Record (records.Entries (next_entries node) (next_durable node)), refl, record { owes = tt; records = refl; stable = refl })

checkpoint_tame : (node : Node) → AreTame node [] node (checkpoint node)
checkpoint_tame node = tame_if node node (same_optime (next_stable node) node.stable) _ _ (refusal node why.NothingToDo refl) (stores.Checkpoint (next_stable node), refl, record { owes = tt; records = refl; stable = refl })

reconfig_tame : (nodes : ℕ) (node : Node) (config : Config) → AreTame node [] node (reconfig nodes node config)
reconfig_tame nodes node config = tame_unless node node (reconfig_refusal nodes node config) _ (reconfig_works nodes node config) (config_record (in_term config node.term), refl, record { owes = tt; records = refl; stable = refl })

recovered_tame : (node : Node) → AreTame node [] node (recovered node)
recovered_tame node = tame_if node node (has_more (kept node.records)) _ _ (cut_record (kept node.records).point, refl, record { owes = tt; records = refl; stable = refl }) (record { owes = tt; records = refl; stable = refl })

-- ---- each command

-- it changes something, or a store failed
abbrev pub IsLoud : Kind → Type 0
IsLoud changes = ⊤
IsLoud still = ⊥
IsLoud ignores = ⊥
IsLoud fails = ⊤

recovered_loud : (node : Node) (failed : Option ℕ) → IsLoud (kind_of (done (recovered node) failed).reply)
recovered_loud node failed = go (has_more (kept node.records)) failed
  where
    go : (more : Bool) (failed : Option ℕ) → IsLoud (kind_of (done (if more then then_stored node (cut_record (kept node.records).point) (λ n. finished (came_back n)) else finished (came_back node)) failed).reply)
    go true None = tt
    go true (Some zero) = tt
    go true (Some (suc number)) = tt
    go false failed = tt

-- a restart of a node that is down opens its disks first
pub record Opens (there : Bool) (node : Node) (plan : Plan) : Type 0 where
  pub down : node.up ≡ false
  pub rest : Plan
  pub plan_is : plan ≡ storing node rest
  pub tame : AreTame (settled_doubt node node.doubt there) [] (settled_doubt node node.doubt there) rest
  pub tells : (failed : Option ℕ) → IsLoud (kind_of (done rest failed).reply)

abbrev pub IsTameRow : (restart there : Bool) → Node → Plan → Type 0
IsTameRow false there node plan = AreTame node [] node plan
IsTameRow true there node plan = (plan ≡ finished (refused why.NotDown node)) ⊎ Opens there node plan

restart_tame : (node : Node) (there : Bool) → IsTameRow true there node (restart node there)
restart_tame node there = go node.up refl
  where
    go : (up : Bool) → node.up ≡ up → IsTameRow true there node (if up then finished (refused why.NotDown node) else storing node (recovered (settled_doubt node node.doubt there)))
    go true is = inl refl
    go false is = inr (record { down = is; rest = recovered (settled_doubt node node.doubt there); plan_is = refl; tame = recovered_tame (settled_doubt node node.doubt there); tells = recovered_loud (settled_doubt node node.doubt there) })

pub row_tame : (nodes next : ℕ) (there : Bool) (node : Node) (command : Command) → IsTameRow (is_restart command) there node (row nodes next there node command)
row_tame nodes next there node (Command.Ack number target concern) = tame_up node node _ (tame_answer node _ (ack_answers node target concern))
row_tame nodes next there node (Command.Read number level collection id) = tame_up node node _ (tame_answer node _ (read_answers node level collection (tree_of id)))
row_tame nodes next there node (Command.Dump number level) = tame_up node node _ (record { owes = (refl, refl); records = refl; stable = refl })
row_tame nodes next there node (Command.Log number) = tame_up node node _ (record { owes = (refl, refl); records = refl; stable = refl })
row_tame nodes next there node (Command.State number) = tame_up node node _ (record { owes = (refl, refl); records = refl; stable = refl })
row_tame nodes next there node (Command.Rolled number) = tame_up node node _ (record { owes = (refl, refl); records = refl; stable = refl })
row_tame nodes next there node (Command.DryRun number) = tame_up node node _ (dry_run_tame next node)
row_tame nodes next there node (Command.Heartbeat number to) = tame_up node node _ (other node _ refl refl refl)
row_tame nodes next there node (Command.Report number to) = tame_up node node _ (other node _ refl refl refl)
row_tame nodes next there node (Command.Common number to) = tame_up node node _ (other node _ refl refl refl)
row_tame nodes next there node (Command.Fetch number) = tame_up node node _ (fetch_tame next node)
row_tame nodes next there node (Command.Deliver message) = refusal node why.NoSuchMessage refl
row_tame nodes next there node (Command.DeliverLatest from to) = refusal node why.NoSuchMessage refl
row_tame nodes next there node (Command.DiskFail number disk call pick) = record { owes = (refl, refl); records = refl; stable = refl }
row_tame nodes next there node (Command.Clock number seconds) = other node _ refl refl refl
row_tame nodes next there node (Command.Campaign number) = tame_up node node _ (campaign_tame next node)
row_tame nodes next there node (Command.Drain number) = tame_up node node _ (drain_tame node)
row_tame nodes next there node (Command.Insert number collection document) = tame_up node node _ (write_tame node (ops.Insert collection document))
row_tame nodes next there node (Command.Replace number collection id document) = tame_up node node _ (write_tame node (ops.Replace collection id document))
row_tame nodes next there node (Command.Update number collection id operators) = tame_up node node _ (write_tame node (ops.Update collection id operators))
row_tame nodes next there node (Command.Delete number collection id) = tame_up node node _ (write_tame node (ops.Delete collection id))
row_tame nodes next there node (Command.Retry number session op) = tame_up node node _ (retry_tame node session op)
row_tame nodes next there node (Command.Note number) = tame_up node node _ (note_tame node)
row_tame nodes next there node (Command.Begin number writer op) = tame_up node node _ (begin_tame node writer op)
row_tame nodes next there node (Command.Commit number writer) = tame_up node node _ (open_tame node (maps.get node.writers writer) _ (λ at op. other node _ refl refl refl))
row_tame nodes next there node (Command.Abort number writer) = tame_up node node _ (open_tame node (maps.get node.writers writer) _ (λ at op. other node _ refl refl refl))
row_tame nodes next there node (Command.StepDown number) = tame_up node node _ (step_down_tame node)
row_tame nodes next there node (Command.Apply number workers) = tame_up node node _ (apply_tame node)
row_tame nodes next there node (Command.Flush number) = tame_up node node _ (flush_tame node)
row_tame nodes next there node (Command.Checkpoint number) = tame_up node node _ (checkpoint_tame node)
row_tame nodes next there node (Command.Reconfig number config) = tame_up node node _ (reconfig_tame nodes node config)
row_tame nodes next there node (Command.Crash number pick) = tame_up node node _ (other node _ refl refl refl)
row_tame nodes next there node (Command.Restart number) = restart_tame node there

-- ---- a retry that is told again

pub retried_still : (node : Node) (session : Session) (op : WriteOp) (last : LastWrite) → last_write session.id node.log ≡ Some last → session.number ≤ last.number
    → ((retry node session op).node ≡ node) × ((retry node session op).sent ≡ [])
retried_still node session op last is within = primary_cases IsSame node _ (refl, refl) (λ primary. subst (λ found. IsSame (retried node session op found)) (sym is)
    (by (nat_lt session.number last.number) (last.number == session.number) refl refl))
  where
    IsSame : Outcome → Type 0
    IsSame outcome = (outcome.node ≡ node) × (outcome.sent ≡ [])

    by : (less same : Bool) → nat_lt session.number last.number ≡ less → (last.number == session.number) ≡ same
        → IsSame (if less then refused (why.OldNumber last.number) node else if same then replied (reply.Written last.at) node else write_in node (Some session) op)
    by true same less equal = (refl, refl)
    by false true less equal = (refl, refl)
    by false false less equal =
        let order : last.number ≤ session.number = ltb-false session.number last.number less in
        let both : last.number ≡ session.number = omega (arith, order, within) in
        absurd (cc (equal, eq-eqb last.number session.number both))
