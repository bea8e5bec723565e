-- A shard may go to another thread, and a part of a batch may be seen from one, so a job may go too. One type
-- after another: a `search` through all of them runs out of steps.
use denote.Param.Send.{IsSend, IsSync, sendable}
use Rattle.std.proofs.Crossing as heap
use Rattle.std.proofs.MapsCrossing as maps
use Rattle.bson_doc.specs.contracts.doc.Doc as doc
use Rattle.bson_doc.specs.contracts.doc.Items as items
use Rattle.bson_doc.proofs.doc.Doc.TheLaws.TheKnot as documents
use Rattle.bson_doc.proofs.text.Text.TheSendSync.{the_send as text_send, the_sync as text_sync}
use Rattle.bson_doc.proofs.text.Bytes.TheSendSync.{the_send as bytes_send, the_sync as bytes_sync}
use Rattle.bson_doc.proofs.key.IdKey.TheSendSync.{the_send as key_send}
use Rattle.version_store.specs.contracts.history.History as history
use Rattle.version_store.specs.contracts.row.Row as row
use Rattle.version_store.specs.contracts.tree.Tree as tree
use Rattle.version_store.specs.contracts.collection.Collection as collection
use Rattle.version_store.specs.contracts.listing.Listing as listing
use Rattle.version_store.specs.contracts.shard.Shard as shard
use Rattle.version_store.specs.contracts.shard_documents.ShardDocuments as documents_of_shard
use Rattle.oplog_entry.specs.contracts.entry.Entry as entry
use Rattle.oplog_entry.specs.contracts.entry.Op as op
use Rattle.oplog_entry.specs.contracts.entry.SharedOp as shared_op
use Rattle.batch_applier.specs.contracts.part.Part as part
use Rattle.batch_applier.specs.contracts.touch.Touch as touch
use Rattle.batch_applier.specs.contracts.touches.Piece as piece
use Rattle.batch_applier.specs.contracts.touches.Touches as touches
use Rattle.batch_applier.specs.contracts.shard_job.ShardJob as job

doc_send : IsSend doc.the_row
doc_send = search (sendable, documents.crosses, heap.crosses, text_send, bytes_send) depth 40 fits 20000

doc_sync : IsSync doc.the_row
doc_sync = search (sendable, documents.crosses, heap.crosses, text_sync, bytes_sync) depth 40 fits 20000

history_send : IsSend history.the_row
history_send = search (sendable, heap.crosses, doc_send) depth 40 fits 20000

row_send : IsSend row.the_row
row_send = search (sendable, heap.crosses, key_send, history_send) depth 40 fits 20000

tree_send : IsSend tree.the_row
tree_send = search (sendable, heap.crosses, maps.crosses, key_send, history_send) depth 40 fits 20000

collection_send : IsSend collection.the_row
collection_send = search (sendable, heap.crosses, row_send, tree_send) depth 40 fits 20000

documents_send : IsSend documents_of_shard.the_row
documents_send = search (sendable, heap.crosses, maps.crosses, collection_send) depth 40 fits 20000

listing_send : IsSend listing.the_row
listing_send = search (sendable, heap.crosses, maps.crosses, text_send, key_send) depth 40 fits 20000

shard_send : IsSend shard.the_row
shard_send = search (sendable, heap.crosses, documents_send, listing_send) depth 40 fits 20000

items_sync : IsSync items.the_row
items_sync = search (sendable, documents.crosses, heap.crosses, text_send, text_sync, bytes_send, bytes_sync) depth 40 fits 20000

items_send : IsSend items.the_row
items_send = search (sendable, documents.crosses, heap.crosses, text_send, text_sync, bytes_send, bytes_sync) depth 40 fits 20000

op_send : IsSend op.the_row
op_send = search (sendable, heap.crosses, text_send, bytes_send, doc_send, items_send) depth 40 fits 20000

op_sync : IsSync op.the_row
op_sync = search (sendable, heap.crosses, text_sync, bytes_sync, doc_sync, items_sync) depth 40 fits 20000

shared_op_sync : IsSync shared_op.the_row
shared_op_sync = search (sendable, heap.crosses, op_send, op_sync) depth 40 fits 20000

entry_sync : IsSync entry.the_row
entry_sync = search (sendable, heap.crosses, shared_op_sync) depth 40 fits 20000

touch_send : (a : _) → IsSend (touch.the_row a)
touch_send a = search (sendable, heap.crosses, text_sync, entry_sync) depth 40 fits 20000

pub touches_send : (a : _) → IsSend (touches.the_row a)
touches_send a = search (sendable, heap.crosses, touch_send) depth 40 fits 20000

pub piece_send : (a : _) → IsSend (piece.the_row a)
piece_send a = search (sendable, heap.crosses, touches_send, entry_sync) depth 40 fits 20000

touch_sync : (a : _) → IsSync (touch.the_row a)
touch_sync a = search (sendable, heap.crosses, text_sync, entry_sync) depth 40 fits 20000

touches_sync : (a : _) → IsSync (touches.the_row a)
touches_sync a = search (sendable, heap.crosses, touch_sync) depth 40 fits 20000

part_sync : (a : _) → IsSync (part.the_row a)
part_sync a = search (sendable, heap.crosses, touches_sync) depth 40 fits 20000

pub job_send : (a b : _) → IsSend (job.the_row a b)
job_send a b = search (sendable, heap.crosses, shard_send, part_sync) depth 40 fits 20000
