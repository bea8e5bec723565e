-- The documents that result from a log of entries.
use Rattle.std.specs.Prelude.{List, Option, None, Some, fold}
use Rattle.std.specs.FinMap.{FinMap, empty, get, insert, remove}
use Rattle.bson_doc.specs.Tree.{Fields}
use Rattle.bson_doc.specs.Place.{Place, place_cmp}
use Rattle.oplog_entry.specs.declared.entry.Op.{Op}
use Rattle.oplog_entry.specs.declared.entry.Entry.{Entry}
use Rattle.oplog_entry.specs.Step.{place_of, document_after}

-- the existing documents by collection and key, in that order
abbrev pub Documents : Type 0
Documents = FinMap place_cmp Fields

-- the documents with this one at a place, or with none there
abbrev pub put_at : Documents → Place → Option Fields → Documents
put_at documents place (Some document) = insert documents place document
put_at documents place None = remove documents place

-- the documents after an op that touches the document at this place, or no document
abbrev pub applied_at : Documents → Op → Option Place → Documents
applied_at documents op None = documents
applied_at documents op (Some place) = put_at documents place (document_after op (get documents place))

-- the documents after one more entry
abbrev pub applied : Documents → Entry → Documents
applied documents entry = applied_at documents entry.op (place_of entry.op)

-- the documents of a log: its entries, applied one after another
abbrev pub docs : List Entry → Documents
docs log = fold applied empty log
