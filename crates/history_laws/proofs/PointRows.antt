-- What each row leaves of a node's points.
use Rattle.std.proofs.Common.{◌≡◌, inl, refl, ℕ, ◌+◌, Bool, true, false, Option, None, Some, Result, Ok, Err}
use Rattle.std.specs.FinMap as maps
use Rattle.doc_update.specs.declared.write.WriteOp.{WriteOp}
use Rattle.doc_update.specs.declared.write.WriteOp.TheVariants as ops
use Rattle.doc_update.specs.declared.write.Prepared.{Prepared}
use Rattle.doc_update.specs.declared.write.Prepared.TheVariants as prepared
use Rattle.rs_optime.specs.Order.{AtMost}
use Rattle.rs_optime.specs.declared.optime.OpTime.{OpTime}
use Rattle.oplog_entry.specs.Visible.{last_of}
use Rattle.oplog_entry.specs.declared.entry.Op.{Op}
use Rattle.oplog_entry.specs.declared.entry.Session.{Session}
use Rattle.member_config.specs.Config.{in_term}
use Rattle.set_model.specs.declared.command.Command.{Command}
use Rattle.set_model.specs.declared.reply.Refusal.{Refusal}
use Rattle.set_model.specs.declared.writer.Writer.{Writer}
use Rattle.set_model.specs.declared.writer.Writer.TheVariants as writers
use Rattle.set_model.specs.Admitted.{admitted}
use Rattle.set_model.specs.Elections.{campaign, candidate, candidate_refusal, dry_run, drain, step_down}
use Rattle.set_model.specs.Node.{Node}
use Rattle.set_model.specs.Outcome.{Outcome}
use Rattle.set_model.specs.Roles.{is_secondary, is_draining}
use Rattle.set_model.specs.Rows.{row}
use Rattle.set_model.specs.Stores.{stored, vote_record, config_record}
use Rattle.set_model.specs.Votes.{is_elected}
use Rattle.set_model.specs.Write.{write, written, retry, note}
use Rattle.set_model.specs.Writers.{begin, begun, unless_open, with_open, commit, abort}
use Rattle.set_model.proofs.RetryLemmas.{primary_cases, retry_cases}
use Rattle.history_laws.proofs.Plans.{PlanEnds, end_if, plan_if, plan_unless, plan_up}
use Rattle.history_laws.proofs.PointSteps.{Ends, alike, broken_goes, itself_goes, steps}
use Rattle.history_laws.proofs.Points.{Goes, counted_commit, kept_goes}
use Rattle.history_laws.proofs.OtherPointRows.{other_row_goes}

module _ (node : Node) (up : node.up ≡ true) (top : AtMost node.commit (last_of node.log)) where
  written_ends : (session : Option Session) (found : Result Prepared Refusal) → Ends node up top (written node session found)
  written_ends session (Err why) = itself_goes node
  written_ends session (Ok prepared.NoMatch) = itself_goes node
  written_ends session (Ok prepared.Unchanged) = itself_goes node
  written_ends session (Ok (prepared.Entry entry after)) = alike node up top _ refl refl refl refl

  write_ends : (op : WriteOp) → Ends node up top (write node op)
  write_ends op = primary_cases (Ends node up top) node _ (itself_goes node) (λ primary. written_ends None (admitted node op))

  retry_ends : (session : Session) (op : WriteOp) → Ends node up top (retry node session op)
  retry_ends session op = retry_cases (Ends node up top) node session op (λ why. (itself_goes node)) (λ found is same. (itself_goes node)) (λ primary past. written_ends (Some session) (admitted node op))

  note_ends : Ends node up top (note node)
  note_ends = primary_cases (Ends node up top) node _ (itself_goes node) (λ primary. alike node up top _ refl refl refl refl)

  begin_ends : (writer : ℕ) (op : WriteOp) → Ends node up top (begin node writer op)
  begin_ends writer op = primary_cases (Ends node up top) node _ (itself_goes node) (λ primary. go (maps.get node.writers writer))
    where
      effect : (found : Result Prepared Refusal) → Ends node up top (begun node writer found)
      effect (Err why) = itself_goes node
      effect (Ok prepared.NoMatch) = itself_goes node
      effect (Ok prepared.Unchanged) = itself_goes node
      effect (Ok (prepared.Entry entry after)) = alike node up top _ refl refl refl refl

      go : (found : Option Writer) → Ends node up top (unless_open node found (begun node writer (admitted node op)))
      go (Some (writers.Open at entry)) = itself_goes node
      go (Some (writers.Done at)) = effect (admitted node op)
      go (Some (writers.Lost term)) = effect (admitted node op)
      go None = effect (admitted node op)

  open_ends : (found : Option Writer) (ends : OpTime → Op → Outcome) → ((at : OpTime) (op : Op) → Ends node up top (ends at op)) → Ends node up top (with_open node found ends)
  open_ends (Some (writers.Open at op)) ends goes = goes at op
  open_ends (Some (writers.Lost term)) ends goes = itself_goes node
  open_ends (Some (writers.Done at)) ends goes = itself_goes node
  open_ends None ends goes = itself_goes node

  commit_ends : (writer : ℕ) → Ends node up top (commit node writer)
  commit_ends writer = open_ends (maps.get node.writers writer) _ (λ at op. alike node up top _ refl refl refl refl)

  abort_ends : (writer : ℕ) → Ends node up top (abort node writer)
  abort_ends writer = open_ends (maps.get node.writers writer) _ (λ at op. alike node up top _ refl refl refl refl)

  drain_goes : PlanEnds (Goes node) (drain node)
  drain_goes = plan_if (Goes node) (is_draining node.role) _ _
      (λ is. (
        broken_goes node node (config_record (in_term node.config node.term)),
        kept_goes node _ up (record { commit = counted_commit node.commit node.durable _; applied = λ other. let clash : true ≡ false = other in absurd (cc clash); stable = inl refl }),
      ))
      (λ is. (itself_goes node))

  campaign_goes : (next : ℕ) → PlanEnds (Goes node) (campaign next node)
  campaign_goes next = plan_unless (Goes node) node (candidate_refusal node) _ (itself_goes node) (
    broken_goes node node (vote_record (node.term + 1) (Some node.number)),
    end_if (Goes node) (is_elected (candidate (stored node (vote_record (node.term + 1) (Some node.number))))) _ _ (λ is. steps node up top _ refl refl refl) (λ is. steps node up top _ refl refl refl),
  )

  dry_run_goes : (next : ℕ) → PlanEnds (Goes node) (dry_run next node)
  dry_run_goes next = plan_unless (Goes node) node (candidate_refusal node) _ (itself_goes node) (alike node up top _ refl refl refl refl)

  step_down_ends : Ends node up top (step_down node)
  step_down_ends = end_if (Goes node) (is_secondary node.role) _ _ (λ is. (itself_goes node)) (λ is. steps node up top _ refl refl refl)

-- ---- each command

pub row_goes : (nodes next : ℕ) (there : Bool) (node : Node) (command : Command) → (node.up ≡ true → AtMost node.commit (last_of node.log)) → PlanEnds (Goes node) (row nodes next there node command)
row_goes nodes next there node (Command.Campaign number) top = plan_up (Goes node) node _ (itself_goes node) (λ up. campaign_goes node up (top up) next)
row_goes nodes next there node (Command.Drain number) top = plan_up (Goes node) node _ (itself_goes node) (λ up. drain_goes node up (top up))
row_goes nodes next there node (Command.Insert number collection document) top = plan_up (Goes node) node _ (itself_goes node) (λ up. write_ends node up (top up) (ops.Insert collection document))
row_goes nodes next there node (Command.Replace number collection id document) top = plan_up (Goes node) node _ (itself_goes node) (λ up. write_ends node up (top up) (ops.Replace collection id document))
row_goes nodes next there node (Command.Update number collection id operators) top = plan_up (Goes node) node _ (itself_goes node) (λ up. write_ends node up (top up) (ops.Update collection id operators))
row_goes nodes next there node (Command.Delete number collection id) top = plan_up (Goes node) node _ (itself_goes node) (λ up. write_ends node up (top up) (ops.Delete collection id))
row_goes nodes next there node (Command.Retry number session op) top = plan_up (Goes node) node _ (itself_goes node) (λ up. retry_ends node up (top up) session op)
row_goes nodes next there node (Command.Note number) top = plan_up (Goes node) node _ (itself_goes node) (λ up. note_ends node up (top up))
row_goes nodes next there node (Command.Begin number writer op) top = plan_up (Goes node) node _ (itself_goes node) (λ up. begin_ends node up (top up) writer op)
row_goes nodes next there node (Command.Commit number writer) top = plan_up (Goes node) node _ (itself_goes node) (λ up. commit_ends node up (top up) writer)
row_goes nodes next there node (Command.Abort number writer) top = plan_up (Goes node) node _ (itself_goes node) (λ up. abort_ends node up (top up) writer)
row_goes nodes next there node (Command.DryRun number) top = plan_up (Goes node) node _ (itself_goes node) (λ up. dry_run_goes node up (top up) next)
row_goes nodes next there node (Command.StepDown number) top = plan_up (Goes node) node _ (itself_goes node) (λ up. step_down_ends node up (top up))
row_goes nodes next there node command top = other_row_goes nodes next there node command refl top
