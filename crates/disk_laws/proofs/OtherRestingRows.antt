-- What a row that is neither a write nor a question leaves of a node that rests while it is down.
use Rattle.std.proofs.Common.{◌≡◌, ◌+◌, ◌||◌, is_some, refl, ℕ, Bool, true, false, Option, None, Some, List, [], ◌∷◌}
use Rattle.std.specs.FinMap as maps
use Rattle.rs_optime.specs.declared.optime.OpTime.{OpTime}
use Rattle.oplog_entry.specs.declared.entry.Entry.{Entry}
use Rattle.oplog_entry.specs.declared.entry.Op.{Op}
use Rattle.member_config.specs.Config.{in_term}
use Rattle.member_config.specs.Numbers.{lowest}
use Rattle.member_config.specs.declared.config.Config.{Config}
use Rattle.repl_msg.specs.Kept as records_kept
use Rattle.repl_msg.specs.declared.record.Record.TheVariants as records
use Rattle.set_model.specs.declared.command.Command.{Command}
use Rattle.set_model.specs.declared.store.Store.TheVariants as stores
use Rattle.set_model.specs.declared.writer.Writer.{Writer}
use Rattle.set_model.specs.declared.writer.Writer.TheVariants as writers
use Rattle.set_model.specs.Disk.{apply, batch_applied, next_batch, flush, is_flushed, next_entries, next_durable, checkpoint, next_stable, restart, recovered, settled_doubt, has_more}
use Rattle.set_model.specs.Elections.{campaign, candidate, candidate_refusal, dry_run, drain, step_down}
use Rattle.set_model.specs.Fetching.{fetch, fetch_from, sources}
use Rattle.set_model.specs.Node.{Node}
use Rattle.set_model.specs.Outcome.{Outcome}
use Rattle.set_model.specs.Points.{same_optime}
use Rattle.set_model.specs.Reconfig.{reconfig, reconfig_refusal}
use Rattle.set_model.specs.Roles.{is_draining, is_primary, is_secondary}
use Rattle.set_model.specs.Rollback.{cut_record}
use Rattle.set_model.specs.Limits.{write_of}
use Rattle.set_model.specs.Rows.{row}
use Rattle.set_model.specs.Stores.{stored, config_record, vote_record}
use Rattle.set_model.specs.Votes.{is_elected}
use Rattle.set_model.specs.Write.{note}
use Rattle.set_model.specs.Writers.{with_open, commit, abort}
use Rattle.set_model.proofs.RetryLemmas.{primary_cases}
use Rattle.safety_laws.specs.Quiet.{is_question}
use Rattle.disk_laws.proofs.Resting.{PlanRests, Rests, breaks, end_if, plan_if, plan_unless, plan_up, stays}

module _ (node : Node) (up : node.up ≡ true) where
  abbrev Ends : Outcome → Type 0
  Ends outcome = Rests outcome.node

  quiet : Rests node
  quiet = stays node up

  note_ends : Ends (note node)
  note_ends = primary_cases Ends node _ quiet (λ primary. stays _ up)

  open_ends : (found : Option Writer) (ends : OpTime → Op → Outcome) → ((at : OpTime) (op : Op) → Ends (ends at op)) → Ends (with_open node found ends)
  open_ends (Some (writers.Open at op)) ends goes = goes at op
  open_ends (Some (writers.Lost term)) ends goes = quiet
  open_ends (Some (writers.Done at)) ends goes = quiet
  open_ends None ends goes = quiet

  commit_ends : (writer : ℕ) → Ends (commit node writer)
  commit_ends writer = open_ends (maps.get node.writers writer) _ (λ at op. stays _ up)

  abort_ends : (writer : ℕ) → Ends (abort node writer)
  abort_ends writer = open_ends (maps.get node.writers writer) _ (λ at op. stays _ up)

  drain_rests : PlanRests (drain node)
  drain_rests = plan_if (is_draining node.role) _ _ (breaks node (config_record (in_term node.config node.term)), stays _ up) quiet

  campaign_rests : (next : ℕ) → PlanRests (campaign next node)
  campaign_rests next = plan_unless node (candidate_refusal node) _ quiet (
    breaks node (vote_record (node.term + 1) (Some node.number)),
    end_if (is_elected (candidate (stored node (vote_record (node.term + 1) (Some node.number))))) _ _ (stays _ up) (stays _ up),
  )

  dry_run_rests : (next : ℕ) → PlanRests (dry_run next node)
  dry_run_rests next = plan_unless node (candidate_refusal node) _ quiet (stays _ up)

  step_down_ends : Ends (step_down node)
  step_down_ends = end_if (is_secondary node.role) _ _ quiet (stays _ up)

  fetch_ends : (next : ℕ) → Ends (fetch next node)
  fetch_ends next = go (lowest (sources node))
    where
      go : (source : Option ℕ) → Ends (fetch_from next node source)
      go None = quiet
      go (Some source) = stays _ up

  apply_ends : Ends (apply node)
  apply_ends = end_if (is_primary node.role) _ _ quiet (go (next_batch node))
    where
      go : (batch : List Entry) → Ends (batch_applied node batch)
      go [] = quiet
      go (entry ∷ entries) = stays _ up

  flush_rests : PlanRests (flush node)
  flush_rests = plan_if (is_flushed node) _ _ quiet (breaks node (stores.Record (records.Entries (next_entries node) (next_durable node))), stays _ up)

  checkpoint_rests : PlanRests (checkpoint node)
  checkpoint_rests = plan_if (same_optime (next_stable node) node.stable) _ _ quiet (breaks node (stores.Checkpoint (next_stable node)), stays _ up)

  reconfig_rests : (nodes : ℕ) (config : Config) → PlanRests (reconfig nodes node config)
  reconfig_rests nodes config = plan_unless node (reconfig_refusal nodes node config) _ quiet (breaks node (config_record (in_term config node.term)), stays _ up)

-- a node that comes up
restart_rests : (node : Node) (there : Bool) → Rests node → PlanRests (restart node there)
restart_rests node there rests = plan_if node.up _ _ rests (rests, comes (settled_doubt node node.doubt there))
  where
    comes : (mid : Node) → PlanRests (recovered mid)
    comes mid = plan_if (has_more (records_kept.kept mid.records)) _ _ (breaks mid (cut_record (records_kept.kept mid.records).point), stays _ refl) (stays _ refl)

-- ---- each command

pub other_row_rests : (nodes next : ℕ) (there : Bool) (node : Node) (command : Command) → (is_some (write_of command) || is_question command) ≡ false → Rests node → PlanRests (row nodes next there node command)
other_row_rests nodes next there node (Command.Campaign number) other rests = plan_up node _ rests (λ up. campaign_rests node up next)
other_row_rests nodes next there node (Command.Drain number) other rests = plan_up node _ rests (λ up. drain_rests node up)
other_row_rests nodes next there node (Command.Note number) other rests = plan_up node _ rests (λ up. note_ends node up)
other_row_rests nodes next there node (Command.Commit number writer) other rests = plan_up node _ rests (λ up. commit_ends node up writer)
other_row_rests nodes next there node (Command.Abort number writer) other rests = plan_up node _ rests (λ up. abort_ends node up writer)
other_row_rests nodes next there node (Command.DryRun number) other rests = plan_up node _ rests (λ up. dry_run_rests node up next)
other_row_rests nodes next there node (Command.StepDown number) other rests = plan_up node _ rests (λ up. step_down_ends node up)
other_row_rests nodes next there node (Command.Fetch number) other rests = plan_up node _ rests (λ up. fetch_ends node up next)
other_row_rests nodes next there node (Command.Apply number workers) other rests = plan_up node _ rests (λ up. apply_ends node up)
other_row_rests nodes next there node (Command.Flush number) other rests = plan_up node _ rests (λ up. flush_rests node up)
other_row_rests nodes next there node (Command.Checkpoint number) other rests = plan_up node _ rests (λ up. checkpoint_rests node up)
other_row_rests nodes next there node (Command.Reconfig number config) other rests = plan_up node _ rests (λ up. reconfig_rests node up nodes config)
other_row_rests nodes next there node (Command.Crash number pick) other rests = plan_up node _ rests (λ up. record { blank = λ down. refl })
other_row_rests nodes next there node (Command.Restart number) other rests = restart_rests node there rests
other_row_rests nodes next there node (Command.Clock number seconds) other rests = record { blank = λ down. rests.blank down }
other_row_rests nodes next there node (Command.Deliver message) other rests = rests
other_row_rests nodes next there node (Command.DeliverLatest from to) other rests = rests
other_row_rests nodes next there node (Command.DiskFail number disk call pick) other rests = rests
other_row_rests nodes next there node (Command.Heartbeat number to) other rests = plan_up node _ rests (λ up. rests)
other_row_rests nodes next there node (Command.Report number to) other rests = plan_up node _ rests (λ up. rests)
other_row_rests nodes next there node (Command.Common number to) other rests = plan_up node _ rests (λ up. rests)
other_row_rests nodes next there node command other rests = let clash : true ≡ false = other in absurd (cc clash)
