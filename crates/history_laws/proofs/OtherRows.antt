-- What a row that neither writes nor changes who leads leaves of the documents that writers hold.
use Rattle.std.proofs.Common.{◌≡◌, inl, inr, refl, ℕ, Bool, true, false, Option, None, Some, Result, Ok, Err, List, [], ◌∷◌}
use Rattle.std.specs.FinMap as maps
use Rattle.bson_doc.specs.Key.{key_of}
use Rattle.bson_doc.specs.Tree.{Tree}
use Rattle.bson_doc.specs.View.{tree_of}
use Rattle.bson_doc.specs.declared.key.IdKey.{IdKey}
use Rattle.rs_optime.specs.declared.optime.OpTime.{OpTime}
use Rattle.oplog_entry.specs.declared.entry.Entry.{Entry}
use Rattle.member_config.specs.declared.config.Config.{Config}
use Rattle.member_config.specs.Config.{in_term}
use Rattle.member_config.specs.Numbers.{lowest}
use Rattle.repl_msg.specs.Kept.{kept}
use Rattle.repl_msg.specs.declared.record.Record.TheVariants as records
use Rattle.set_model.specs.declared.command.AckConcern.{AckConcern}
use Rattle.set_model.specs.declared.command.Command.{Command}
use Rattle.set_model.specs.declared.command.ReadLevel.{ReadLevel}
use Rattle.set_model.specs.declared.command.Target.{Target}
use Rattle.set_model.specs.declared.reply.Refusal.{Refusal}
use Rattle.set_model.specs.declared.role.Role.TheVariants as roles
use Rattle.set_model.specs.declared.store.Store.TheVariants as stores
use Rattle.set_model.specs.Concerns.{ack, ack_at, acked, ack_refusal, target_point}
use Rattle.set_model.specs.Disk.{apply, batch_applied, next_batch, flush, is_flushed, next_entries, next_durable, checkpoint, next_stable, restart, recovered, came_back, settled_doubt, has_more}
use Rattle.set_model.specs.Fetching.{fetch, fetch_from, sources}
use Rattle.set_model.specs.Node.{Node}
use Rattle.set_model.specs.Points.{same_optime}
use Rattle.set_model.specs.Reads.{read, read_key}
use Rattle.set_model.specs.Reconfig.{reconfig, reconfig_refusal}
use Rattle.set_model.specs.Roles.{is_primary}
use Rattle.set_model.specs.Rollback.{cut_record}
use Rattle.set_model.specs.Rows.{row}
use Rattle.set_model.specs.Stores.{stored, config_record}
use Rattle.history_laws.proofs.Holding.{Ends, Goes, Holding, PlanGoes, broken_goes, closed_holds, none_closed, still_goes}
use Rattle.history_laws.proofs.Groups.{is_leading_or_writing}
use Rattle.history_laws.proofs.Plans.{end_if, plan_if, plan_unless, plan_up}

module _ (node : Node) (holds : Holding node) where
  quiet : Goes node node
  quiet = still_goes node node (holds, refl)

  ack_ends : (target : Target) (concern : AckConcern) → Ends node (ack node target concern)
  ack_ends target concern = go (target_point node target)
    where
      met : (at : OpTime) (why : Option Refusal) → Ends node (acked node at why)
      met at (Some why) = quiet
      met at None = quiet

      go : (found : Result OpTime Refusal) → Ends node (ack_at node concern found)
      go (Err why) = quiet
      go (Ok at) = met at (ack_refusal node at concern)

  read_ends : (level : ReadLevel) (collection : List ℕ) (id : Tree) → Ends node (read node level collection id)
  read_ends level collection id = go (key_of id)
    where
      go : (key : Option IdKey) → Ends node (read_key node level collection key)
      go None = quiet
      go (Some key) = quiet

  fetch_ends : (next : ℕ) → Ends node (fetch next node)
  fetch_ends next = go (lowest (sources node))
    where
      go : (source : Option ℕ) → Ends node (fetch_from next node source)
      go None = quiet
      go (Some source) = quiet

  apply_ends : Ends node (apply node)
  apply_ends = end_if (Goes node) (is_primary node.role) _ _ (λ is. quiet) (λ is. go (next_batch node))
    where
      go : (batch : List Entry) → Ends node (batch_applied node batch)
      go [] = quiet
      go (entry ∷ entries) = quiet

  flush_goes : PlanGoes node (flush node)
  flush_goes = plan_if (Goes node) (is_flushed node) _ _ (λ is. quiet) (λ is. (broken_goes node node (stores.Record (records.Entries (next_entries node) (next_durable node))), quiet))

  checkpoint_goes : PlanGoes node (checkpoint node)
  checkpoint_goes = plan_if (Goes node) (same_optime (next_stable node) node.stable) _ _ (λ is. quiet) (λ is. (broken_goes node node (stores.Checkpoint (next_stable node)), quiet))

  reconfig_goes : (nodes : ℕ) (config : Config) → PlanGoes node (reconfig nodes node config)
  reconfig_goes nodes config = plan_unless (Goes node) node (reconfig_refusal nodes node config) _ quiet (broken_goes node node (config_record (in_term config node.term)), quiet)

  back_ends : (mid : Node) → Ends node (came_back mid)
  back_ends mid = (closed_holds roles.Secondary _ maps.empty none_closed, inr (inl refl))

  restart_goes : (there : Bool) → PlanGoes node (restart node there)
  restart_goes there = plan_if (Goes node) node.up _ _ (λ is. quiet) (λ is. (quiet, up (settled_doubt node node.doubt there)))
    where
      up : (mid : Node) → PlanGoes node (recovered mid)
      up mid = plan_if (Goes node) (has_more (kept mid.records)) _ _ (λ is. (broken_goes node mid (cut_record (kept mid.records).point), back_ends (stored mid (cut_record (kept mid.records).point)))) (λ is. back_ends mid)

-- ---- each command

pub other_row_goes : (nodes next : ℕ) (there : Bool) (node : Node) (command : Command) → is_leading_or_writing command ≡ false → Holding node → PlanGoes node (row nodes next there node command)
other_row_goes nodes next there node (Command.Ack number target concern) other ok = plan_up (Goes node) node _ (still_goes node node (ok, refl)) (λ up. ack_ends node ok target concern)
other_row_goes nodes next there node (Command.Read number level collection id) other ok = plan_up (Goes node) node _ (still_goes node node (ok, refl)) (λ up. read_ends node ok level collection (tree_of id))
other_row_goes nodes next there node (Command.Fetch number) other ok = plan_up (Goes node) node _ (still_goes node node (ok, refl)) (λ up. fetch_ends node ok next)
other_row_goes nodes next there node (Command.Apply number workers) other ok = plan_up (Goes node) node _ (still_goes node node (ok, refl)) (λ up. apply_ends node ok)
other_row_goes nodes next there node (Command.Flush number) other ok = plan_up (Goes node) node _ (still_goes node node (ok, refl)) (λ up. flush_goes node ok)
other_row_goes nodes next there node (Command.Checkpoint number) other ok = plan_up (Goes node) node _ (still_goes node node (ok, refl)) (λ up. checkpoint_goes node ok)
other_row_goes nodes next there node (Command.Reconfig number config) other ok = plan_up (Goes node) node _ (still_goes node node (ok, refl)) (λ up. reconfig_goes node ok nodes config)
other_row_goes nodes next there node (Command.Crash number pick) other ok = plan_up (Goes node) node _ (still_goes node node (ok, refl)) (λ up. (closed_holds roles.Secondary [] maps.empty none_closed, inr (inl refl)))
other_row_goes nodes next there node (Command.Restart number) other ok = restart_goes node ok there
other_row_goes nodes next there node (Command.Deliver message) other ok = still_goes node node (ok, refl)
other_row_goes nodes next there node (Command.DeliverLatest from to) other ok = still_goes node node (ok, refl)
other_row_goes nodes next there node (Command.DiskFail number disk call pick) other ok = still_goes node node (ok, refl)
other_row_goes nodes next there node (Command.Clock number seconds) other ok = (ok, inl refl)
other_row_goes nodes next there node (Command.Dump number level) other ok = plan_up (Goes node) node _ (still_goes node node (ok, refl)) (λ up. still_goes node node (ok, refl))
other_row_goes nodes next there node (Command.Log number) other ok = plan_up (Goes node) node _ (still_goes node node (ok, refl)) (λ up. still_goes node node (ok, refl))
other_row_goes nodes next there node (Command.State number) other ok = plan_up (Goes node) node _ (still_goes node node (ok, refl)) (λ up. still_goes node node (ok, refl))
other_row_goes nodes next there node (Command.Rolled number) other ok = plan_up (Goes node) node _ (still_goes node node (ok, refl)) (λ up. still_goes node node (ok, refl))
other_row_goes nodes next there node (Command.Heartbeat number to) other ok = plan_up (Goes node) node _ (still_goes node node (ok, refl)) (λ up. still_goes node node (ok, refl))
other_row_goes nodes next there node (Command.Report number to) other ok = plan_up (Goes node) node _ (still_goes node node (ok, refl)) (λ up. still_goes node node (ok, refl))
other_row_goes nodes next there node (Command.Common number to) other ok = plan_up (Goes node) node _ (still_goes node node (ok, refl)) (λ up. still_goes node node (ok, refl))
other_row_goes nodes next there node command other ok = let clash : true ≡ false = other in absurd (cc clash)
