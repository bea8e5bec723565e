-- A set may go to another thread: one type after another, from the lowest up, since a `search` through all of them runs out of
-- steps.
use denote.Param.Send.{IsSend, IsSync, sendable, struct_send, recorded_send, enum_send, enum_sync}
use denote.Enum.Enum.{Enum}
use denote.Enum.Declared.{shape as enum_shape}
use denote.Struct.Struct.{Struct}
use denote.Struct.Declared.{shape as struct_shape}
use Rattle.std.proofs.Crossing as heap
use Rattle.std.proofs.MapsCrossing as maps
use Rattle.bson_doc.specs.contracts.doc.Doc as doc
use Rattle.bson_doc.specs.contracts.doc.Items as items
use Rattle.bson_doc.proofs.doc.Doc.TheLaws.TheKnot as documents
use Rattle.bson_doc.proofs.text.Text.TheSendSync.{the_send as text_send, the_sync as text_sync}
use Rattle.bson_doc.proofs.text.Bytes.TheSendSync.{the_send as bytes_send, the_sync as bytes_sync}
use Rattle.bson_doc.proofs.key.IdKey.TheSendSync.{the_send as key_send}
use Rattle.version_store.specs.contracts.history.History as history
use Rattle.version_store.specs.contracts.row.Row as row
use Rattle.version_store.specs.contracts.tree.Tree as tree
use Rattle.version_store.specs.contracts.collection.Collection as collection
use Rattle.version_store.specs.contracts.listing.Listing as listing
use Rattle.version_store.specs.contracts.shard.Shard as shard
use Rattle.version_store.specs.contracts.shard_documents.ShardDocuments as documents_of_shard
use Rattle.version_store.specs.contracts.store.VersionStore as store
use Rattle.oplog_entry.specs.contracts.entry.Entry as entry
use Rattle.oplog_entry.specs.contracts.entry.Op as op
use Rattle.oplog_entry.specs.contracts.entry.SharedOp as shared_op
use Rattle.oplog_store.specs.contracts.oplog.Oplog as oplog
use Rattle.oplog_store.specs.contracts.places.Place as place
use Rattle.oplog_store.specs.contracts.open_log.OpenLog as open_log
use Rattle.optime_slots.specs.contracts.slots.Slots as slots
use Rattle.member_config.specs.contracts.config.Config as config
use Rattle.repl_msg.specs.contracts.lists.EntryList as entry_list
use Rattle.repl_msg.specs.contracts.lists.OptimeList as optime_list
use Rattle.repl_msg.specs.contracts.lists.SharedEntries as shared_entries
use Rattle.repl_msg.specs.contracts.message.Body as body
use Rattle.repl_msg.specs.contracts.message.FetchReply as fetch_reply
use Rattle.repl_msg.specs.contracts.message.Message as message
use Rattle.repl_msg.specs.contracts.record.Record as record_kept
use Rattle.set_model.specs.contracts.store.Store as stored
use Rattle.set_model.specs.contracts.writer.Writer as writer
use Rattle.set_model.specs.contracts.lists.DocumentList as document_list
use Rattle.set_model.specs.contracts.lists.LostList as lost_list
use Rattle.set_model.specs.contracts.reply.Reply as reply
use Rattle.set_model.specs.contracts.command.Command as command
use Rattle.set_model.specs.contracts.command.Event as event
use Rattle.doc_update.specs.contracts.write.WriteOp as write_op
use Rattle.fault_script.specs.contracts.lists.Lines as lines
use Rattle.sync_source.specs.contracts.table.KnownTable as known_table
use Rattle.election_core.specs.contracts.dry_run.DryRun as dry_run
use Rattle.oplog_store.specs.contracts.unjournaled.Unjournaled as unjournaled
use Rattle.election_core.specs.contracts.tally.Tally as tally
use Rattle.node_data.specs.contracts.writer_map.WriterMap as writer_map
use Rattle.node_data.specs.contracts.keeping.NodeData as node_data
use Rattle.node_data.specs.contracts.session_log.SessionLog as session_log
use Rattle.node_data.specs.contracts.session_log.SessionTable as session_table
use Rattle.node_data.specs.contracts.told.ToldOptimes as told_optimes
use Rattle.node_state.specs.contracts.state.State as state
use Rattle.node_core.specs.contracts.disks.Disks as disks
use Rattle.node_core.specs.contracts.node.Node as node
use Rattle.node_core.specs.contracts.down.DownState as down_state
use Rattle.commit_point.proofs.progress.Progress.TheSendSync.{the_send as progress_send}
use Rattle.set_model.proofs.records.Records.TheSendSync.{the_send as records_send}
use Rattle.node_data.specs.contracts.writer_map.Held as held
use Rattle.bson_doc.specs.contracts.doc.Value as value
use Rattle.node_journal.proofs.journal.Journal.TheSendSync.{the_send as journal_send}
use Rattle.checkpoint_store.proofs.checkpoints.Checkpoints.TheSendSync.{the_send as checkpoints_send}
use Rattle.turn_board.proofs.pass.Pass.TheSendSync.{the_send as any_pass_send}
use Rattle.turn_board.proofs.board.Board.TheSendSync.{the_sync as any_board_sync}
use Rattle.shared_set.proofs.attempts.Attempts.TheSendSync.{the_send as attempts_send}
use Rattle.set_program.specs.contracts.block.ListEnd as list_end
use Rattle.set_program.specs.contracts.block.ListJob as list_job
use Rattle.turn_board.specs.contracts.pass.Pass as pass
use Rattle.shared_set.specs.contracts.shared.SharedSet as shared
use Rattle.set_world.specs.contracts.pool.Pool as pool
use Rattle.set_world.specs.contracts.points.Points as points
use Rattle.set_world.specs.contracts.world.World as world
use Rattle.shared_set.specs.contracts.turning.Turning as turning

doc_send : IsSend doc.the_row
doc_send = search (sendable, documents.crosses, heap.crosses, text_send, text_sync, bytes_send, bytes_sync) depth 40 fits 20000

doc_sync : IsSync doc.the_row
doc_sync = search (sendable, documents.crosses, heap.crosses, text_send, text_sync, bytes_send, bytes_sync) depth 40 fits 20000

items_send : IsSend items.the_row
items_send = search (sendable, documents.crosses, heap.crosses, text_send, text_sync, bytes_send, bytes_sync) depth 40 fits 20000

items_sync : IsSync items.the_row
items_sync = search (sendable, documents.crosses, heap.crosses, text_send, text_sync, bytes_send, bytes_sync) depth 40 fits 20000

history_send : IsSend history.the_row
history_send = search (sendable, heap.crosses, doc_send) depth 40 fits 20000

row_send : IsSend row.the_row
row_send = search (sendable, heap.crosses, key_send, history_send) depth 40 fits 20000

tree_send : IsSend tree.the_row
tree_send = search (sendable, heap.crosses, maps.crosses, key_send, history_send) depth 40 fits 20000

collection_send : IsSend collection.the_row
collection_send = search (sendable, heap.crosses, row_send, tree_send) depth 40 fits 20000

documents_send : IsSend documents_of_shard.the_row
documents_send = search (sendable, heap.crosses, maps.crosses, collection_send) depth 40 fits 20000

listing_send : IsSend listing.the_row
listing_send = search (sendable, heap.crosses, maps.crosses, text_send, key_send) depth 40 fits 20000

shard_send : IsSend shard.the_row
shard_send = search (sendable, heap.crosses, documents_send, listing_send) depth 40 fits 20000

store_send : IsSend store.the_row
store_send = search (sendable, heap.crosses, shard_send) depth 40 fits 20000

op_send : IsSend op.the_row
op_send = search (sendable, heap.crosses, text_send, bytes_send, doc_send, items_send) depth 40 fits 20000

op_sync : IsSync op.the_row
op_sync = search (sendable, heap.crosses, text_sync, bytes_sync, doc_sync, items_sync) depth 40 fits 20000

shared_op_send : IsSend shared_op.the_row
shared_op_send = search (sendable, heap.crosses, op_send, op_sync) depth 40 fits 20000

shared_op_sync : IsSync shared_op.the_row
shared_op_sync = search (sendable, heap.crosses, op_send, op_sync) depth 40 fits 20000

entry_send : IsSend entry.the_row
entry_send = search (sendable, heap.crosses, shared_op_send) depth 40 fits 20000

entry_sync : IsSync entry.the_row
entry_sync = search (sendable, heap.crosses, shared_op_sync) depth 40 fits 20000

oplog_send : IsSend oplog.the_row
oplog_send = search (sendable, heap.crosses, entry_send) depth 40 fits 20000

place_send : IsSend place.the_row
place_send = search (sendable, heap.crosses, shared_op_send) depth 40 fits 20000

open_log_send : IsSend open_log.the_row
open_log_send = search (sendable, heap.crosses, oplog_send, place_send, shared_op_send) depth 60 fits 20000

slots_send : IsSend slots.the_row
slots_send = search (sendable, heap.crosses, maps.crosses) depth 40 fits 20000

config_send : IsSend config.the_row
config_send = search (sendable, heap.crosses) depth 40 fits 20000

config_sync : IsSync config.the_row
config_sync = search (sendable, heap.crosses) depth 40 fits 20000

entry_list_send : IsSend entry_list.the_row
entry_list_send = search (sendable, heap.crosses, entry_send) depth 40 fits 20000

shared_entries_send : IsSend shared_entries.the_row
shared_entries_send = search (sendable, heap.crosses, entry_send, entry_sync) depth 40 fits 20000

optime_list_send : IsSend optime_list.the_row
optime_list_send = search (sendable, heap.crosses) depth 40 fits 20000

body_send : IsSend body.the_row
body_send = search (sendable, heap.crosses, config_send, shared_entries_send, optime_list_send) depth 40 fits 20000

message_send : IsSend message.the_row
message_send = search (sendable, heap.crosses, shared_entries_send, optime_list_send) depth 60 fits 20000

record_send : IsSend record_kept.the_row
record_send = search (sendable, heap.crosses, config_send, entry_list_send) depth 40 fits 20000

stored_send : IsSend stored.the_row
stored_send = search (sendable, heap.crosses, entry_list_send) depth 60 fits 20000

value_send : IsSend value.the_row
value_send = search (sendable, heap.crosses, text_send, bytes_send, doc_send, items_send) depth 40 fits 20000

value_sync : IsSync value.the_row
value_sync = search (sendable, heap.crosses, text_sync, bytes_sync, doc_sync, items_sync) depth 40 fits 20000

writer_send : IsSend writer.the_row
writer_send = search (sendable, heap.crosses, text_send, doc_send, shared_op_send) depth 40 fits 20000

document_list_send : IsSend document_list.the_row
document_list_send = search (sendable, heap.crosses, text_send, doc_send) depth 40 fits 20000

lost_list_send : IsSend lost_list.the_row
lost_list_send = search (sendable, heap.crosses, text_send, key_send, doc_send) depth 40 fits 20000

pub reply_field_send : IsSend (reply.the_field).row
reply_field_send = enum_send (enum_shape reply.the_type) (search sendable depth 60 fits 20000, (search sendable depth 60 fits 20000, (search sendable depth 60 fits 20000, (search sendable depth 60 fits 20000, (search sendable depth 60 fits 20000, (search sendable depth 60 fits 20000, (search sendable depth 60 fits 20000, (search sendable depth 60 fits 20000, (search sendable depth 60 fits 20000, (search sendable depth 60 fits 20000, (search sendable depth 60 fits 20000, (search sendable depth 60 fits 20000, ((doc_send, tt), (search sendable depth 60 fits 20000, ((document_list_send, tt), ((lost_list_send, tt), ((entry_list_send, tt), (search sendable depth 60 fits 20000, (search sendable depth 60 fits 20000, (search sendable depth 60 fits 20000, (search sendable depth 60 fits 20000, (search sendable depth 60 fits 20000, (search sendable depth 60 fits 20000, (search sendable depth 60 fits 20000, (search sendable depth 60 fits 20000, (search sendable depth 60 fits 20000, (search sendable depth 60 fits 20000, (search sendable depth 60 fits 20000, (search sendable depth 60 fits 20000, (search sendable depth 60 fits 20000, (search sendable depth 60 fits 20000, (search sendable depth 60 fits 20000, (search sendable depth 60 fits 20000, (search sendable depth 60 fits 20000, (search sendable depth 60 fits 20000, (search sendable depth 60 fits 20000, (search sendable depth 60 fits 20000, (search sendable depth 60 fits 20000, tt))))))))))))))))))))))))))))))))))))))

pub reply_send : IsSend reply.the_row
reply_send = recorded_send (Enum (enum_shape reply.the_type)) (reply.the_type).D (reply.the_type).to (reply.the_type).to_one reply_field_send

value_field_send : IsSend (value.the_field).row
value_field_send = search (sendable, heap.crosses, text_send, bytes_send, doc_send, items_send) depth 60 fits 20000

value_field_sync : IsSync (value.the_field).row
value_field_sync = search (sendable, heap.crosses, text_sync, bytes_sync, doc_sync, items_sync) depth 60 fits 20000

write_op_field_send : IsSend (write_op.the_field).row
write_op_field_send = search (sendable, heap.crosses, text_send, bytes_send, doc_send, items_send) depth 60 fits 20000

write_op_field_sync : IsSync (write_op.the_field).row
write_op_field_sync = search (sendable, heap.crosses, text_sync, bytes_sync, doc_sync, items_sync) depth 60 fits 20000

config_field_send : IsSend (config.the_field).row
config_field_send = search (sendable, heap.crosses) depth 60 fits 20000

config_field_sync : IsSync (config.the_field).row
config_field_sync = search (sendable, heap.crosses) depth 60 fits 20000

command_field_send : IsSend (command.the_field).row
command_field_send = enum_send (enum_shape command.the_type) (search sendable depth 60 fits 20000, (search sendable depth 60 fits 20000, (search (text_send, doc_send, sendable), (search (text_send, value_field_send, doc_send, sendable) depth 60 fits 20000, (search (text_send, value_field_send, doc_send, sendable) depth 60 fits 20000, (search (text_send, value_field_send, doc_send, sendable) depth 60 fits 20000, ((search sendable, (search sendable depth 60 fits 20000, (write_op_field_send, tt))), (search sendable depth 60 fits 20000, ((search sendable, (search sendable, (write_op_field_send, tt))), (search sendable depth 60 fits 20000, (search sendable depth 60 fits 20000, (search sendable depth 60 fits 20000, (search (text_send, value_field_send, sendable) depth 60 fits 20000, (search sendable depth 60 fits 20000, (search sendable depth 60 fits 20000, (search sendable depth 60 fits 20000, (search sendable depth 60 fits 20000, (search sendable depth 60 fits 20000, (search sendable depth 60 fits 20000, (search sendable depth 60 fits 20000, (search sendable depth 60 fits 20000, (search sendable depth 60 fits 20000, (search sendable depth 60 fits 20000, (search sendable depth 60 fits 20000, (search sendable depth 60 fits 20000, (search sendable depth 60 fits 20000, (search sendable depth 60 fits 20000, (search sendable depth 60 fits 20000, ((search sendable, (config_field_send, tt)), (search sendable depth 60 fits 20000, (search sendable depth 60 fits 20000, (search sendable depth 60 fits 20000, (search sendable depth 60 fits 20000, tt)))))))))))))))))))))))))))))))))

command_field_sync : IsSync (command.the_field).row
command_field_sync = enum_sync (enum_shape command.the_type) (search sendable depth 60 fits 20000, (search sendable depth 60 fits 20000, (search (text_sync, doc_sync, sendable), (search (text_sync, value_field_sync, doc_sync, sendable) depth 60 fits 20000, (search (text_sync, value_field_sync, doc_sync, sendable) depth 60 fits 20000, (search (text_sync, value_field_sync, doc_sync, sendable) depth 60 fits 20000, ((search sendable, (search sendable depth 60 fits 20000, (write_op_field_sync, tt))), (search sendable depth 60 fits 20000, ((search sendable, (search sendable, (write_op_field_sync, tt))), (search sendable depth 60 fits 20000, (search sendable depth 60 fits 20000, (search sendable depth 60 fits 20000, (search (text_sync, value_field_sync, sendable) depth 60 fits 20000, (search sendable depth 60 fits 20000, (search sendable depth 60 fits 20000, (search sendable depth 60 fits 20000, (search sendable depth 60 fits 20000, (search sendable depth 60 fits 20000, (search sendable depth 60 fits 20000, (search sendable depth 60 fits 20000, (search sendable depth 60 fits 20000, (search sendable depth 60 fits 20000, (search sendable depth 60 fits 20000, (search sendable depth 60 fits 20000, (search sendable depth 60 fits 20000, (search sendable depth 60 fits 20000, (search sendable depth 60 fits 20000, (search sendable depth 60 fits 20000, ((search sendable, (config_field_sync, tt)), (search sendable depth 60 fits 20000, (search sendable depth 60 fits 20000, (search sendable depth 60 fits 20000, (search sendable depth 60 fits 20000, tt)))))))))))))))))))))))))))))))))

event_send : IsSend event.the_row
event_send = recorded_send (Struct (struct_shape event.the_type)) (event.the_type).D (event.the_type).to (event.the_type).to_one
    (struct_send (struct_shape event.the_type) (command_field_send, (search sendable depth 40, (search sendable depth 40, (search sendable depth 40, tt)))))

pub lines_sync : IsSync lines.the_row
lines_sync = search (command_field_sync, heap.crosses, sendable) depth 60 fits 20000

known_send : IsSend known_table.the_row
known_send = search (sendable, heap.crosses, maps.crosses) depth 40 fits 20000

tally_send : IsSend tally.the_row
tally_send = search (sendable, heap.crosses) depth 40 fits 20000

dry_run_send : IsSend dry_run.the_row
dry_run_send = search (sendable, heap.crosses, config_send, tally_send) depth 40 fits 20000

unjournaled_send : IsSend unjournaled.the_row
unjournaled_send = search (sendable, heap.crosses) depth 40 fits 20000

held_send : IsSend held.the_row
held_send = search (sendable, heap.crosses, text_send, bytes_send, key_send, doc_send, items_send, shared_op_send, writer_send) depth 60 fits 20000

writer_map_send : IsSend writer_map.the_row
writer_map_send = search (sendable, heap.crosses, maps.crosses, held_send, writer_send) depth 60 fits 20000

session_table_send : IsSend session_table.the_row
session_table_send = search (sendable, heap.crosses, maps.crosses) depth 40 fits 20000

fetch_reply_send : IsSend fetch_reply.the_row
fetch_reply_send = search (sendable, heap.crosses, shared_entries_send) depth 40 fits 20000

told_optimes_send : IsSend told_optimes.the_row
told_optimes_send = search (sendable, heap.crosses, optime_list_send) depth 40 fits 20000

session_log_send : IsSend session_log.the_row
session_log_send = search (sendable, heap.crosses, open_log_send, session_table_send, fetch_reply_send, told_optimes_send) depth 80 fits 20000

node_data_send : IsSend node_data.the_row
node_data_send = search (sendable, heap.crosses, session_log_send, slots_send, writer_map_send, store_send) depth 40 fits 20000

state_send : IsSend state.the_row
state_send = search (sendable, heap.crosses, config_send, node_data_send, progress_send, known_send, tally_send, dry_run_send, lost_list_send, unjournaled_send, records_send) depth 40 fits 20000

down_send : IsSend down_state.the_row
down_send = search (sendable, heap.crosses, records_send, entry_list_send) depth 60 fits 20000

pool_send : IsSend pool.the_row
pool_send = search (sendable, heap.crosses, maps.crosses, message_send) depth 40 fits 20000

points_send : IsSend points.the_row
points_send = search (sendable, heap.crosses) depth 40 fits 20000

down_field_send : IsSend (down_state.the_field).row
down_field_send = search (sendable, heap.crosses, records_send, entry_list_send) depth 60 fits 20000

module _ (d : _) (disk : _) (send : IsSend d) where
  disks_field_send : IsSend (disks.the_field d disk).row
  disks_field_send = search (journal_send, checkpoints_send, send, sendable) depth 60 fits 20000

  node_send : IsSend (node.the_row d disk)
  node_send = record {
    owned = λ x vs y. ((λ vss. (tt, (heap.send.owned y.0.alloc vss.0, (state_send.owned y.0.state vss.1.0, (disks_field_send.owned ((disks.the_type d disk).to y.0.disks) vss.1.1.0, (search, (down_field_send.owned ((down_state.the_type).to y.0.left) vss.1.1.1.1.0, tt))))))), tt);
    leaving = λ k x w. tt;
  }

  world_send : IsSend (world.the_row d disk)
  world_send = record {
    owned = λ x vs y. (
      (λ vss. (
        tt,
        (
          heap.send.owned y.0.alloc vss.0,
          (
            search,
            (
              search,
              (
                search,
                (
                  (heap.Vec-send (node.the_row d disk) node_send).owned y.0.nodes vss.1.1.1.1.0,
                  (
                    pool_send.owned y.0.pool vss.1.1.1.1.1.0,
                    (
                      (heap.Vec-send event.the_row event_send).owned y.0.history vss.1.1.1.1.1.1.0,
                      (points_send.owned y.0.points vss.1.1.1.1.1.1.1.0, ((heap.Vec-send d send).owned y.0.idle vss.1.1.1.1.1.1.1.1.0, (search, (search, (search, tt))))),
                    ),
                  ),
                ),
              ),
            ),
          ),
        ),
      )),
      tt,
    );
    leaving = λ k x w. tt;
  }

  pub turning_send : IsSend (turning.the_row d disk)
  turning_send = search (world_send, attempts_send, heap.crosses, sendable) depth 60 fits 20000

  pub set_sync : IsSync (shared.the_row d disk)
  set_sync = search (any_board_sync, turning_send, heap.crosses, sendable) depth 60 fits 20000

  pub pass_send : (e f : _) (g : _) → IsSend (pass.the_row (turning.the_row d disk) e f g)
  pass_send e f g = any_pass_send (turning.the_row d disk) e f g turning_send

  pub list_end_send : IsSend (list_end.the_row d disk)
  list_end_send = search (pass_send, reply_field_send, heap.crosses, sendable) depth 60 fits 20000

  pub list_job_send : (lives : _) (gate runs : _) → IsSync gate → IsSync runs → IsSend (list_job.the_row lives d gate runs disk)
  list_job_send lives gate runs gates run =
      recorded_send (Struct (struct_shape (list_job.the_type lives d gate runs disk))) (list_job.the_type lives d gate runs disk).D (list_job.the_type lives d gate runs disk).to (list_job.the_type lives d gate runs disk).to_one
      (struct_send (struct_shape (list_job.the_type lives d gate runs disk)) (
        search (run, sendable) depth 20,
        (
          search sendable depth 20,
          (
            search (set_sync, sendable) depth 20,
            (
              search (pass_send, sendable) depth 20,
              (
                search (lines_sync, sendable) depth 20,
                (
                  search sendable depth 20,
                  (search (gates, sendable) depth 20, tt),
                ),
              ),
            ),
          ),
        ),
      ))
