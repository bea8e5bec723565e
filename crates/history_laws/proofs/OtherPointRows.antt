-- What a row that neither writes nor changes who leads leaves of a node's points.
use Rattle.std.proofs.Common.{◌≡◌, inl, inr, sym, subst, refl, ℕ, Bool, true, false, Option, None, Some, Result, Ok, Err, List, [], ◌∷◌}
use Rattle.bson_doc.specs.Key.{key_of}
use Rattle.bson_doc.specs.Tree.{Tree}
use Rattle.bson_doc.specs.View.{tree_of}
use Rattle.bson_doc.specs.declared.key.IdKey.{IdKey}
use Rattle.rs_optime.specs.Order.{AtMost}
use Rattle.rs_optime.specs.declared.optime.OpTime.{OpTime}
use Rattle.rs_optime.proofs.Optimes.{at_most_refl, at_most_trans, before_at_most}
use Rattle.oplog_entry.specs.Visible.{last_of}
use Rattle.oplog_entry.specs.declared.entry.Entry.{Entry}
use Rattle.member_config.specs.declared.config.Config.{Config}
use Rattle.member_config.specs.Config.{in_term}
use Rattle.member_config.specs.Numbers.{lowest}
use Rattle.repl_msg.specs.Kept as records_kept
use Rattle.repl_msg.specs.declared.record.Record.TheVariants as records
use Rattle.set_model.specs.declared.command.AckConcern.{AckConcern}
use Rattle.set_model.specs.declared.command.Command.{Command}
use Rattle.set_model.specs.declared.command.ReadLevel.{ReadLevel}
use Rattle.set_model.specs.declared.command.Target.{Target}
use Rattle.set_model.specs.declared.reply.Refusal.{Refusal}
use Rattle.set_model.specs.declared.store.Store.TheVariants as stores
use Rattle.set_model.specs.Concerns.{ack, ack_at, acked, ack_refusal, target_point}
use Rattle.set_model.specs.Disk.{apply, batch_applied, next_batch, flush, is_flushed, next_entries, next_durable, checkpoint, next_stable, restart, recovered, came_back, settled_doubt, has_more}
use Rattle.set_model.specs.Fetching.{fetch, fetch_from, sources}
use Rattle.set_model.specs.Node.{Node}
use Rattle.set_model.specs.Points.{log_after, same_optime}
use Rattle.set_model.specs.Reads.{read, read_key}
use Rattle.set_model.specs.Reconfig.{reconfig, reconfig_refusal}
use Rattle.set_model.specs.Roles.{is_primary}
use Rattle.set_model.specs.Rollback.{cut_record}
use Rattle.set_model.specs.Rows.{row}
use Rattle.set_model.specs.Stores.{stored, config_record}
use Rattle.set_model.specs.Writers.{commit}
use Rattle.commit_machine.specs.Words.{Has}
use Rattle.commit_machine.proofs.Lists.{after_has, has_last, has_take}
use Rattle.history_laws.proofs.Groups.{is_leading_or_writing}
use Rattle.history_laws.proofs.Plans.{PlanEnds, end_if, plan_if, plan_unless, plan_up}
use Rattle.history_laws.proofs.PointSteps.{Ends, broken_goes, itself_goes, rises}
use Rattle.history_laws.proofs.Points.{Goes, down_goes, evaluated_commit, kept_goes, risen, shown_point, still_itself}

module _ (node : Node) (up : node.up ≡ true) (top : AtMost node.commit (last_of node.log)) where
  ack_ends : (target : Target) (concern : AckConcern) → Ends node up top (ack node target concern)
  ack_ends target concern = go (target_point node target)
    where
      met : (at : OpTime) (why : Option Refusal) → Ends node up top (acked node at why)
      met at (Some why) = itself_goes node
      met at None = itself_goes node

      go : (found : Result OpTime Refusal) → Ends node up top (ack_at node concern found)
      go (Err why) = itself_goes node
      go (Ok at) = met at (ack_refusal node at concern)

  read_ends : (level : ReadLevel) (collection : List ℕ) (id : Tree) → Ends node up top (read node level collection id)
  read_ends level collection id = go (key_of id)
    where
      go : (key : Option IdKey) → Ends node up top (read_key node level collection key)
      go None = itself_goes node
      go (Some key) = itself_goes node

  fetch_ends : (next : ℕ) → Ends node up top (fetch next node)
  fetch_ends next = go (lowest (sources node))
    where
      go : (source : Option ℕ) → Ends node up top (fetch_from next node source)
      go None = itself_goes node
      go (Some source) = itself_goes node

  apply_ends : Ends node up top (apply node)
  apply_ends = end_if (Goes node) (is_primary node.role) _ _ (λ is. (itself_goes node)) (λ is. go (next_batch node) refl)
    where
      more : (entry : Entry) (entries : List Entry) → next_batch node ≡ entry ∷ entries → AtMost node.applied (last_of (entry ∷ entries))
      more entry entries is = before_at_most node.applied (last_of (entry ∷ entries))
          (after_has (last_of (entry ∷ entries)) node.applied node.log (has_take (last_of (entry ∷ entries)) 5000 (log_after node.applied node.log)
          (subst (λ (l : List Entry). Has (last_of (entry ∷ entries)) l) (sym is) (has_last entry entries)))).1

      go : (batch : List Entry) → next_batch node ≡ batch → Ends node up top (batch_applied node batch)
      go [] is = itself_goes node
      go (entry ∷ entries) is = kept_goes node _ up (record {
        commit = at_most_refl node.commit;
        applied = λ other. at_most_trans (shown_point node) node.applied (last_of (entry ∷ entries)) ((still_itself node).0.applied other) (more entry entries is);
        stable = inl refl;
      })

  flush_goes : PlanEnds (Goes node) (flush node)
  flush_goes = plan_if (Goes node) (is_flushed node) _ _ (λ is. (itself_goes node))
      (λ is. (broken_goes node node (stores.Record (records.Entries (next_entries node) (next_durable node))), rises node up top _ (evaluated_commit node.role node.commit (next_durable node) _) refl refl refl))

  checkpoint_goes : PlanEnds (Goes node) (checkpoint node)
  checkpoint_goes = plan_if (Goes node) (same_optime (next_stable node) node.stable) _ _ (λ is. (itself_goes node)) (λ is. (
    broken_goes node node (stores.Checkpoint (next_stable node)),
    kept_goes node _ up (record { commit = at_most_refl node.commit; applied = (still_itself node).0.applied; stable = inr refl }),
  ))

  reconfig_goes : (nodes : ℕ) (config : Config) → PlanEnds (Goes node) (reconfig nodes node config)
  reconfig_goes nodes config = plan_unless (Goes node) node (reconfig_refusal nodes node config) _ (itself_goes node)
      (broken_goes node node (config_record (in_term config node.term)), rises node up top _ (evaluated_commit node.role node.commit node.durable _) refl refl refl)

-- a node that comes up
restart_goes : (node : Node) (there : Bool) → PlanEnds (Goes node) (restart node there)
restart_goes node there = plan_if (Goes node) node.up _ _ (λ is. itself_goes node) (λ is. (itself_goes node, comes is (settled_doubt node node.doubt there)))
  where
    back : node.up ≡ false → (mid : Node) → Goes node (came_back mid).node
    back is mid = record { kept = λ was now. absurd (cc (is, was)); back = λ down now. refl }

    comes : node.up ≡ false → (mid : Node) → PlanEnds (Goes node) (recovered mid)
    comes is mid = plan_if (Goes node) (has_more (records_kept.kept mid.records)) _ _
        (λ more. (broken_goes node mid (cut_record (records_kept.kept mid.records).point), back is (stored mid (cut_record (records_kept.kept mid.records).point))))
        (λ none. back is mid)

-- ---- each command

pub other_row_goes : (nodes next : ℕ) (there : Bool) (node : Node) (command : Command) → is_leading_or_writing command ≡ false → (node.up ≡ true → AtMost node.commit (last_of node.log)) → PlanEnds (Goes node) (row nodes next there node command)
other_row_goes nodes next there node (Command.Ack number target concern) other top = plan_up (Goes node) node _ (itself_goes node) (λ up. ack_ends node up (top up) target concern)
other_row_goes nodes next there node (Command.Read number level collection id) other top = plan_up (Goes node) node _ (itself_goes node) (λ up. read_ends node up (top up) level collection (tree_of id))
other_row_goes nodes next there node (Command.Fetch number) other top = plan_up (Goes node) node _ (itself_goes node) (λ up. fetch_ends node up (top up) next)
other_row_goes nodes next there node (Command.Apply number workers) other top = plan_up (Goes node) node _ (itself_goes node) (λ up. apply_ends node up (top up))
other_row_goes nodes next there node (Command.Flush number) other top = plan_up (Goes node) node _ (itself_goes node) (λ up. flush_goes node up (top up))
other_row_goes nodes next there node (Command.Checkpoint number) other top = plan_up (Goes node) node _ (itself_goes node) (λ up. checkpoint_goes node up (top up))
other_row_goes nodes next there node (Command.Reconfig number config) other top = plan_up (Goes node) node _ (itself_goes node) (λ up. reconfig_goes node up (top up) nodes config)
other_row_goes nodes next there node (Command.Crash number pick) other top = plan_up (Goes node) node _ (itself_goes node) (λ up. down_goes node _ refl)
other_row_goes nodes next there node (Command.Restart number) other top = restart_goes node there
other_row_goes nodes next there node (Command.Deliver message) other top = itself_goes node
other_row_goes nodes next there node (Command.DeliverLatest from to) other top = itself_goes node
other_row_goes nodes next there node (Command.DiskFail number disk call pick) other top = itself_goes node
other_row_goes nodes next there node (Command.Clock number seconds) other top = record { kept = λ was now. risen node node node.commit (still_itself node).0 (at_most_refl node.commit) _ refl refl refl refl; back = λ down now. absurd (cc (down, now)) }
other_row_goes nodes next there node (Command.Dump number level) other top = plan_up (Goes node) node _ (itself_goes node) (λ up. itself_goes node)
other_row_goes nodes next there node (Command.Log number) other top = plan_up (Goes node) node _ (itself_goes node) (λ up. itself_goes node)
other_row_goes nodes next there node (Command.State number) other top = plan_up (Goes node) node _ (itself_goes node) (λ up. itself_goes node)
other_row_goes nodes next there node (Command.Rolled number) other top = plan_up (Goes node) node _ (itself_goes node) (λ up. itself_goes node)
other_row_goes nodes next there node (Command.Heartbeat number to) other top = plan_up (Goes node) node _ (itself_goes node) (λ up. itself_goes node)
other_row_goes nodes next there node (Command.Report number to) other top = plan_up (Goes node) node _ (itself_goes node) (λ up. itself_goes node)
other_row_goes nodes next there node (Command.Common number to) other top = plan_up (Goes node) node _ (itself_goes node) (λ up. itself_goes node)
other_row_goes nodes next there node command other top = let clash : true ≡ false = other in absurd (cc clash)
