-- What each row leaves of a node that rests while it is down.
use Rattle.std.proofs.Common.{◌≡◌, refl, ℕ, Bool, true, Option, None, Some, Result, Ok, Err, List}
use Rattle.std.specs.FinMap as maps
use Rattle.bson_doc.specs.Key.{key_of}
use Rattle.bson_doc.specs.Tree.{Tree}
use Rattle.bson_doc.specs.View.{tree_of}
use Rattle.bson_doc.specs.declared.key.IdKey.{IdKey}
use Rattle.doc_update.specs.declared.write.Prepared.{Prepared}
use Rattle.doc_update.specs.declared.write.Prepared.TheVariants as prepared
use Rattle.doc_update.specs.declared.write.WriteOp.{WriteOp}
use Rattle.doc_update.specs.declared.write.WriteOp.TheVariants as ops
use Rattle.rs_optime.specs.declared.optime.OpTime.{OpTime}
use Rattle.oplog_entry.specs.declared.entry.Session.{Session}
use Rattle.set_model.specs.declared.command.AckConcern.{AckConcern}
use Rattle.set_model.specs.declared.command.Command.{Command}
use Rattle.set_model.specs.declared.command.ReadLevel.{ReadLevel}
use Rattle.set_model.specs.declared.command.Target.{Target}
use Rattle.set_model.specs.declared.reply.Refusal.{Refusal}
use Rattle.set_model.specs.declared.writer.Writer.{Writer}
use Rattle.set_model.specs.declared.writer.Writer.TheVariants as writers
use Rattle.set_model.specs.Admitted.{admitted}
use Rattle.set_model.specs.Concerns.{ack, ack_at, acked, ack_refusal, target_point}
use Rattle.set_model.specs.Node.{Node}
use Rattle.set_model.specs.Outcome.{Outcome}
use Rattle.set_model.specs.Reads.{read, read_key}
use Rattle.set_model.specs.Rows.{row}
use Rattle.set_model.specs.Write.{write, written, retry}
use Rattle.set_model.specs.Writers.{begin, begun, unless_open}
use Rattle.set_model.proofs.RetryLemmas.{primary_cases, retry_cases}
use Rattle.disk_laws.proofs.OtherRestingRows.{other_row_rests}
use Rattle.disk_laws.proofs.Resting.{PlanRests, Rests, plan_up, stays}

module _ (node : Node) (up : node.up ≡ true) where
  abbrev Ends : Outcome → Type 0
  Ends outcome = Rests outcome.node

  quiet : Rests node
  quiet = stays node up

  written_ends : (session : Option Session) (found : Result Prepared Refusal) → Ends (written node session found)
  written_ends session (Err why) = quiet
  written_ends session (Ok prepared.NoMatch) = quiet
  written_ends session (Ok prepared.Unchanged) = quiet
  written_ends session (Ok (prepared.Entry entry after)) = stays _ up

  write_ends : (op : WriteOp) → Ends (write node op)
  write_ends op = primary_cases Ends node _ quiet (λ primary. written_ends None (admitted node op))

  retry_ends : (session : Session) (op : WriteOp) → Ends (retry node session op)
  retry_ends session op = retry_cases Ends node session op (λ why. quiet) (λ found is same. quiet) (λ primary past. written_ends (Some session) (admitted node op))

  begin_ends : (writer : ℕ) (op : WriteOp) → Ends (begin node writer op)
  begin_ends writer op = primary_cases Ends node _ quiet (λ primary. go (maps.get node.writers writer))
    where
      effect : (found : Result Prepared Refusal) → Ends (begun node writer found)
      effect (Err why) = quiet
      effect (Ok prepared.NoMatch) = quiet
      effect (Ok prepared.Unchanged) = quiet
      effect (Ok (prepared.Entry entry after)) = stays _ up

      go : (found : Option Writer) → Ends (unless_open node found (begun node writer (admitted node op)))
      go (Some (writers.Open at entry)) = quiet
      go (Some (writers.Done at)) = effect (admitted node op)
      go (Some (writers.Lost term)) = effect (admitted node op)
      go None = effect (admitted node op)

  ack_ends : (target : Target) (concern : AckConcern) → Ends (ack node target concern)
  ack_ends target concern = go (target_point node target)
    where
      met : (at : OpTime) (why : Option Refusal) → Ends (acked node at why)
      met at (Some why) = quiet
      met at None = quiet

      go : (found : Result OpTime Refusal) → Ends (ack_at node concern found)
      go (Err why) = quiet
      go (Ok at) = met at (ack_refusal node at concern)

  read_ends : (level : ReadLevel) (collection : List ℕ) (id : Tree) → Ends (read node level collection id)
  read_ends level collection id = go (key_of id)
    where
      go : (key : Option IdKey) → Ends (read_key node level collection key)
      go None = quiet
      go (Some key) = quiet

-- ---- each command

pub row_rests : (nodes next : ℕ) (there : Bool) (node : Node) (command : Command) → Rests node → PlanRests (row nodes next there node command)
row_rests nodes next there node (Command.Insert number collection document) rests = plan_up node _ rests (λ up. write_ends node up (ops.Insert collection document))
row_rests nodes next there node (Command.Replace number collection id document) rests = plan_up node _ rests (λ up. write_ends node up (ops.Replace collection id document))
row_rests nodes next there node (Command.Update number collection id operators) rests = plan_up node _ rests (λ up. write_ends node up (ops.Update collection id operators))
row_rests nodes next there node (Command.Delete number collection id) rests = plan_up node _ rests (λ up. write_ends node up (ops.Delete collection id))
row_rests nodes next there node (Command.Retry number session op) rests = plan_up node _ rests (λ up. retry_ends node up session op)
row_rests nodes next there node (Command.Begin number writer op) rests = plan_up node _ rests (λ up. begin_ends node up writer op)
row_rests nodes next there node (Command.Ack number target concern) rests = plan_up node _ rests (λ up. ack_ends node up target concern)
row_rests nodes next there node (Command.Read number level collection id) rests = plan_up node _ rests (λ up. read_ends node up level collection (tree_of id))
row_rests nodes next there node (Command.Dump number level) rests = plan_up node _ rests (λ up. rests)
row_rests nodes next there node (Command.Log number) rests = plan_up node _ rests (λ up. rests)
row_rests nodes next there node (Command.State number) rests = plan_up node _ rests (λ up. rests)
row_rests nodes next there node (Command.Rolled number) rests = plan_up node _ rests (λ up. rests)
row_rests nodes next there node command rests = other_row_rests nodes next there node command refl rests
