-- An entry of an oplog as a document.
use Rattle.std.specs.Prelude.{ℕ, pos, true, List, [], Option, None, Some, codes}
use Rattle.rs_optime.specs.declared.optime.OpTime.{OpTime}
use Rattle.bson_doc.specs.Tree.{Tree, int32, int64, text, document, boolean, timestamp, Fields, no_fields, field, Trees, no_items, item}
use Rattle.bson_doc.specs.View.{tree_of}
use Rattle.oplog_entry.specs.declared.entry.Op.{Op}
use Rattle.oplog_entry.specs.declared.entry.Op.TheVariants.{Insert, Replace, Fields as SetFields, Delete, Noop, Note}
use Rattle.oplog_entry.specs.declared.entry.Entry.{Entry}
use Rattle.oplog_entry.specs.declared.entry.Session.{Session}

-- what an op does: insert, update, delete, or nothing
abbrev pub letter_of : Op → List ℕ
letter_of (Insert ns o) = codes "i"
letter_of (Replace ns id o) = codes "u"
letter_of (SetFields ns id sets unsets) = codes "u"
letter_of (Delete ns id) = codes "d"
letter_of Noop = codes "n"
letter_of Note = codes "n"

abbrev pub collection_of : Op → List ℕ
collection_of (Insert ns o) = ns
collection_of (Replace ns id o) = ns
collection_of (SetFields ns id sets unsets) = ns
collection_of (Delete ns id) = ns
collection_of Noop = []
collection_of Note = []

-- `{_id: id}`
abbrev pub only_id : Tree → Fields
only_id id = field (codes "_id") id no_fields

-- each of some strings as a name, with true
abbrev pub marks : Trees → Fields
marks no_items = no_fields
marks (item (text name) rest) = field name (boolean true) (marks rest)
marks (item _ rest) = marks rest

-- a part and what follows it; a part without names is left out
abbrev pub part : List ℕ → Fields → Fields → Fields
part name no_fields rest = rest
part name (field first value others) rest = field name (document (field first value others)) rest

-- `{$v: 1, $set: {..}, $unset: {..}}`
abbrev pub changes : Fields → Fields → Fields
changes sets unsets =
    field (codes "$v") (int32 (pos 1)) (part (codes "$set") sets (part (codes "$unset") unsets no_fields))

-- `{msg: message}`
abbrev pub only_message : List ℕ → Fields
only_message message = field (codes "msg") (text message) no_fields

-- the message of a no-op, and that of a note
abbrev pub new_primary : Fields
new_primary = only_message (codes "new primary")

abbrev pub note : Fields
note = only_message (codes "note")

-- the member `o` of an op's entry
abbrev pub body_of : Op → Fields
body_of (Insert ns o) = o
body_of (Replace ns id o) = o
body_of (SetFields ns id sets unsets) = changes sets (marks unsets)
body_of (Delete ns id) = only_id (tree_of id)
body_of Noop = new_primary
body_of Note = note

-- the member `o2`, which an update has
abbrev pub target_of : Op → Option Fields
target_of (Insert ns o) = None
target_of (Replace ns id o) = Some (only_id (tree_of id))
target_of (SetFields ns id sets unsets) = Some (only_id (tree_of id))
target_of (Delete ns id) = None
target_of Noop = None
target_of Note = None

-- an update's target, before the members that follow it
abbrev pub targeted : Option Fields → Fields → Fields
targeted None rest = rest
targeted (Some target) rest = field (codes "o2") (document target) rest

-- the members `lsid` and `txnNumber`, which a write of a session has
abbrev pub session_members : Option Session → Fields
session_members None = no_fields
session_members (Some session) =
    field (codes "lsid") (int64 (pos session.id))
    (field (codes "txnNumber") (int64 (pos session.number)) no_fields)

-- the members after `o`
abbrev pub last_members : Option Fields → Option Session → Fields
last_members target session = targeted target (session_members session)

-- the members of an entry in their order
abbrev pub members : OpTime → List ℕ → List ℕ → Fields → Option Fields → Option Session → Fields
members optime letter collection body target session =
    field (codes "ts") (timestamp optime.ts)
    (field (codes "t") (int64 (pos optime.term))
    (field (codes "v") (int32 (pos 2))
    (field (codes "op") (text letter)
    (field (codes "ns") (text collection)
    (field (codes "o") (document body) (last_members target session))))))

-- the document of an entry
abbrev pub document_of : Entry → Fields
document_of entry =
    members entry.optime (letter_of entry.op) (collection_of entry.op) (body_of entry.op) (target_of entry.op)
    entry.session
