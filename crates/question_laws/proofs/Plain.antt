-- A command that sends nothing gets a reply that names no message.
use Rattle.std.proofs.Common.{◌≡◌, ◌∙◌, ap, sym, refl, ℕ, Bool, true, false, Option, None, Some, Result, Ok, Err, List, [], ◌∷◌, length, slice_get, if◌then◌else◌}
use Rattle.std.specs.FinMap as maps
use Rattle.bson_doc.specs.Key.{key_of}
use Rattle.bson_doc.specs.Tree.{Fields, Tree}
use Rattle.bson_doc.specs.View.{tree_of}
use Rattle.bson_doc.specs.declared.key.IdKey.{IdKey}
use Rattle.doc_update.specs.declared.write.Prepared.{Prepared}
use Rattle.doc_update.specs.declared.write.Prepared.TheVariants as prepared
use Rattle.doc_update.specs.declared.write.WriteOp.{WriteOp}
use Rattle.doc_update.specs.declared.write.WriteOp.TheVariants as ops
use Rattle.oplog_entry.specs.declared.entry.Entry.{Entry}
use Rattle.oplog_entry.specs.declared.entry.Op.{Op}
use Rattle.oplog_entry.specs.declared.entry.Session.{Session}
use Rattle.repl_msg.specs.Kept.{kept}
use Rattle.rs_optime.specs.declared.optime.OpTime.{OpTime}
use Rattle.set_model.specs.declared.command.AckConcern.{AckConcern}
use Rattle.set_model.specs.declared.command.Command.{Command}
use Rattle.set_model.specs.declared.command.Command.TheVariants as commands
use Rattle.set_model.specs.declared.command.Event.{Event}
use Rattle.set_model.specs.declared.command.ReadLevel.{ReadLevel}
use Rattle.set_model.specs.declared.command.Target.{Target}
use Rattle.set_model.specs.declared.reply.Refusal.{Refusal}
use Rattle.set_model.specs.declared.writer.Writer.{Writer}
use Rattle.set_model.specs.declared.writer.Writer.TheVariants as writers
use Rattle.set_model.specs.Admitted.{admitted}
use Rattle.set_model.specs.Concerns.{ack, ack_at, acked, ack_refusal, target_point}
use Rattle.set_model.specs.Disk.{apply, batch_applied, next_batch, is_flushed, next_stable, restart, recovered, settled_doubt, has_more}
use Rattle.set_model.specs.Node.{Node}
use Rattle.set_model.specs.Outcome.{Outcome}
use Rattle.set_model.specs.Points.{same_optime}
use Rattle.set_model.specs.Reads.{document_reply, read, read_key, shown_documents}
use Rattle.set_model.specs.Reconfig.{reconfig_refusal}
use Rattle.set_model.specs.Roles.{is_draining, is_primary, is_secondary}
use Rattle.set_model.specs.Rows.{row}
use Rattle.set_model.specs.Stores.{Plan, done, if_up, unless_refused}
use Rattle.set_model.specs.World.{Step, World, acts, is_delivery, step, task, touched_node}
use Rattle.set_model.specs.Write.{write, written}
use Rattle.set_model.specs.Writers.{begin, begun, unless_open, with_open}
use Rattle.set_model.proofs.RetryLemmas.{primary_cases, retry_cases}
use Rattle.explore_laws.specs.Alike.{unnumbered}
use Rattle.explore_laws.proofs.AlikeEvents.{step_nowhere, step_whole}
use Rattle.question_laws.specs.Lawful.{may_name}

-- no number of a message stands in the reply
abbrev pub IsPlain : Outcome → Type 0
IsPlain outcome = unnumbered outcome.reply ≡ outcome.reply

abbrev pub IsPlainPlan : Plan → Type 0
IsPlainPlan plan = IsPlain (done plan None)

end_if : (test : Bool) (one two : Outcome) → IsPlain one → IsPlain two → IsPlain (if test then one else two)
end_if true one two plain other = plain
end_if false one two plain other = other

plan_if : (test : Bool) (one two : Plan) → IsPlainPlan one → IsPlainPlan two → IsPlainPlan (if test then one else two)
plan_if true one two plain other = plain
plan_if false one two plain other = other

module _ (node : Node) where
  up : (plan : Plan) → IsPlainPlan plan → IsPlainPlan (if_up node plan)
  up plan plain = plan_if node.up plan _ plain refl

  unless : (why : Option Refusal) (plan : Plan) → IsPlainPlan plan → IsPlainPlan (unless_refused why node plan)
  unless (Some why) plan plain = refl
  unless None plan plain = plain

  written_plain : (session : Option Session) (found : Result Prepared Refusal) → IsPlain (written node session found)
  written_plain session (Err why) = refl
  written_plain session (Ok prepared.NoMatch) = refl
  written_plain session (Ok prepared.Unchanged) = refl
  written_plain session (Ok (prepared.Entry op after)) = refl

  write_plain : (op : WriteOp) → IsPlain (write node op)
  write_plain op = primary_cases IsPlain node _ refl (λ primary. written_plain None (admitted node op))

  begin_plain : (writer : ℕ) (op : WriteOp) → IsPlain (begin node writer op)
  begin_plain writer op = primary_cases IsPlain node _ refl (λ primary. by (maps.get node.writers writer))
    where
      effect : (found : Result Prepared Refusal) → IsPlain (begun node writer found)
      effect (Err why) = refl
      effect (Ok prepared.NoMatch) = refl
      effect (Ok prepared.Unchanged) = refl
      effect (Ok (prepared.Entry entry after)) = refl

      by : (found : Option Writer) → IsPlain (unless_open node found (begun node writer (admitted node op)))
      by (Some (writers.Open at entry)) = refl
      by (Some (writers.Done at)) = effect (admitted node op)
      by (Some (writers.Lost term)) = effect (admitted node op)
      by None = effect (admitted node op)

  open_plain : (found : Option Writer) (with_it : OpTime → Op → Outcome) → ((at : OpTime) (op : Op) → IsPlain (with_it at op)) → IsPlain (with_open node found with_it)
  open_plain (Some (writers.Open at op)) with_it plain = plain at op
  open_plain (Some (writers.Lost term)) with_it plain = refl
  open_plain (Some (writers.Done at)) with_it plain = refl
  open_plain None with_it plain = refl

  ack_plain : (target : Target) (concern : AckConcern) → IsPlain (ack node target concern)
  ack_plain target concern = by (target_point node target)
    where
      met : (at : OpTime) (why : Option Refusal) → IsPlain (acked node at why)
      met at (Some why) = refl
      met at None = refl

      by : (found : Result OpTime Refusal) → IsPlain (ack_at node concern found)
      by (Err why) = refl
      by (Ok at) = met at (ack_refusal node at concern)

  read_plain : (level : ReadLevel) (collection : List ℕ) (id : Tree) → IsPlain (read node level collection id)
  read_plain level collection id = by (key_of id)
    where
      shown : (found : Option Fields) → unnumbered (document_reply found) ≡ document_reply found
      shown None = refl
      shown (Some document) = refl

      by : (key : Option IdKey) → IsPlain (read_key node level collection key)
      by None = refl
      by (Some key) = shown (maps.get (shown_documents node level) (collection, key))

  apply_plain : IsPlain (apply node)
  apply_plain = end_if (is_primary node.role) _ _ refl (by (next_batch node))
    where
      by : (batch : List Entry) → IsPlain (batch_applied node batch)
      by [] = refl
      by (entry ∷ entries) = refl

  restart_plain : (there : Bool) → IsPlainPlan (restart node there)
  restart_plain there = plan_if node.up _ _ refl (by (settled_doubt node node.doubt there))
    where
      by : (start : Node) → IsPlainPlan (recovered start)
      by start = plan_if (has_more (kept start.records)) _ _ refl refl

  pub plain_row : (nodes next : ℕ) (there : Bool) (command : Command) → may_name command ≡ false → IsPlainPlan (row nodes next there node command)
  plain_row nodes next there (commands.Campaign number) is = absurd (cc is)
  plain_row nodes next there (commands.DryRun number) is = absurd (cc is)
  plain_row nodes next there (commands.Heartbeat number to) is = absurd (cc is)
  plain_row nodes next there (commands.Report number to) is = absurd (cc is)
  plain_row nodes next there (commands.Common number to) is = absurd (cc is)
  plain_row nodes next there (commands.Fetch number) is = absurd (cc is)
  plain_row nodes next there (commands.Deliver message) is = absurd (cc is)
  plain_row nodes next there (commands.DeliverLatest from to) is = absurd (cc is)
  plain_row nodes next there (commands.Drain number) is = up _ (plan_if (is_draining node.role) _ _ refl refl)
  plain_row nodes next there (commands.Insert number collection document) is = up _ (write_plain (ops.Insert collection document))
  plain_row nodes next there (commands.Replace number collection id document) is = up _ (write_plain (ops.Replace collection id document))
  plain_row nodes next there (commands.Update number collection id operators) is = up _ (write_plain (ops.Update collection id operators))
  plain_row nodes next there (commands.Delete number collection id) is = up _ (write_plain (ops.Delete collection id))
  plain_row nodes next there (commands.Retry number session op) is = up _ (retry_cases IsPlain node session op (λ why. refl) (λ last is_last same. refl) (λ primary past. written_plain (Some session) (admitted node op)))
  plain_row nodes next there (commands.Note number) is = up _ (primary_cases IsPlain node _ refl (λ primary. refl))
  plain_row nodes next there (commands.Begin number writer op) is = up _ (begin_plain writer op)
  plain_row nodes next there (commands.Commit number writer) is = up _ (open_plain (maps.get node.writers writer) _ (λ at op. refl))
  plain_row nodes next there (commands.Abort number writer) is = up _ (open_plain (maps.get node.writers writer) _ (λ at op. refl))
  plain_row nodes next there (commands.Ack number target concern) is = up _ (ack_plain target concern)
  plain_row nodes next there (commands.Read number level collection id) is = up _ (read_plain level collection (tree_of id))
  plain_row nodes next there (commands.Dump number level) is = up _ refl
  plain_row nodes next there (commands.Log number) is = up _ refl
  plain_row nodes next there (commands.State number) is = up _ refl
  plain_row nodes next there (commands.Rolled number) is = up _ refl
  plain_row nodes next there (commands.StepDown number) is = up _ (end_if (is_secondary node.role) _ _ refl refl)
  plain_row nodes next there (commands.Apply number workers) is = up _ apply_plain
  plain_row nodes next there (commands.Flush number) is = up _ (plan_if (is_flushed node) _ _ refl refl)
  plain_row nodes next there (commands.Checkpoint number) is = up _ (plan_if (same_optime (next_stable node) node.stable) _ _ refl refl)
  plain_row nodes next there (commands.Reconfig number config) is = up _ (unless (reconfig_refusal nodes node config) _ refl)
  plain_row nodes next there (commands.Crash number pick) is = up _ refl
  plain_row nodes next there (commands.Restart number) is = restart_plain there
  plain_row nodes next there (commands.DiskFail number disk call pick) is = refl
  plain_row nodes next there (commands.Clock number seconds) is = refl

-- ---- in a world

-- a command that is no delivery is for one node
pub own_node : (world : World) (command : Command) → is_delivery command ≡ false → task world command ≡ acts (touched_node world command)
own_node world (commands.Deliver message) is = absurd (cc is)
own_node world (commands.DeliverLatest from to) is = absurd (cc is)
own_node world command is = refl

pub named_delivery : (command : Command) → may_name command ≡ false → is_delivery command ≡ false
named_delivery (commands.Deliver message) is = absurd (cc is)
named_delivery (commands.DeliverLatest from to) is = absurd (cc is)
named_delivery command is = refl

plain_as : {one two : Step} → one ≡ two → unnumbered two.reply ≡ two.reply → unnumbered one.reply ≡ one.reply
plain_as same plain = ap (λ (s : Step). unnumbered s.reply) same ∙ plain ∙ sym (ap (λ (s : Step). s.reply) same)

pub plain_reply : (world : World) (event : Event) → may_name event.command ≡ false → event.failed ≡ None → unnumbered (step world event).reply ≡ (step world event).reply
plain_reply world event is whole = by (slice_get world.nodes number) refl
  where
    number : ℕ
    number = touched_node world event.command

    by : (found : Option Node) → slice_get world.nodes number ≡ found → unnumbered (step world event).reply ≡ (step world event).reply
    by None none = plain_as (step_nowhere world event (acts number) (own_node world event.command (named_delivery event.command is)) none) refl
    by (Some node) there = plain_as (step_whole world event whole (acts number) (own_node world event.command (named_delivery event.command is)) node there _ refl)
        (plain_row node (length world.nodes) (length world.messages) event.kept event.command is)
