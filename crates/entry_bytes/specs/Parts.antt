-- Parts of an entry's document, as they are written and read.
use Rattle.std.specs.Prelude.{◌≡◌, ◌≢◌, ℕ, pos, Bool, true, false, not, ◌&&◌, List, codes, Option, None, Some, Result, MatchOption}
use Rattle.std.specs.Str.{bytes_eq}
use Rattle.rs_optime.specs.declared.optime.OpTime.{OpTime}
use Rattle.bson_doc.specs.Tree.{Tree, int32, int64, text, document, boolean, timestamp, Fields, no_fields, field, Trees, no_items, item, with_field, fields_from}
use Rattle.bson_doc.specs.View.{tree_of}
use Rattle.bson_doc.specs.declared.doc.Value.{Value}
use Rattle.oplog_entry.specs.Lawful.{IsLawfulOp}
use Rattle.oplog_entry.specs.declared.entry.Op.{Op}
use Rattle.oplog_entry.specs.declared.entry.Op.TheVariants.{Fields as SetFields}
use Rattle.oplog_entry.specs.declared.entry.Entry.{Entry}
use Rattle.oplog_entry.specs.declared.entry.Session.{Session}
use Rattle.entry_bytes.specs.Answer.{Reads}
use Rattle.entry_bytes.specs.Layout.{letter_of, collection_of, body_of, target_of, changes, marks, only_id, part}
use Rattle.entry_bytes.specs.declared.error.EntryError.{EntryError}

-- ---- as they are written with one more part, unless it is empty
abbrev pub with_part : Fields → List ℕ → Fields → Fields
with_part before name no_fields = before
with_part before name (field first value others) =
    with_field before name (document (field first value others))

-- with the target of an update, where there is one
abbrev pub with_target : Fields → Option Fields → Fields
with_target before None = before
with_target before (Some target) = with_field before (codes "o2") (document target)

-- with the members of a session's write, where the entry is one
abbrev pub with_session : Fields → Option Session → Fields
with_session before None = before
with_session before (Some session) =
    with_field (with_field before (codes "lsid") (int64 (pos session.id))) (codes "txnNumber")
    (int64 (pos session.number))

-- an optime and the version, before the other members
abbrev pub stamped : OpTime → Fields → Fields
stamped optime rest =
    field (codes "ts") (timestamp optime.ts)
    (field (codes "t") (int64 (pos optime.term)) (field (codes "v") (int32 (pos 2)) rest))

-- the members before `o`
abbrev pub members_in_front : OpTime → Op → Fields
members_in_front optime op =
    stamped optime
    (field (codes "op") (text (letter_of op)) (field (codes "ns") (text (collection_of op)) no_fields))

abbrev pub head_of : Entry → Fields
head_of entry = members_in_front entry.optime entry.op

-- ---- as they are read
-- these are the op's members
pub record AreMembersOf (op : Op) (letter collection : List ℕ) (body : Fields)
    (target : Option Fields) : Type 0 where
  pub letter_is : letter_of op ≡ letter
  pub collection_is : collection_of op ≡ collection
  pub body_is : body_of op ≡ body
  pub target_is : target_of op ≡ target

-- a lawful op with these members is read, or there is none
abbrev pub ReadsOp : List ℕ → List ℕ → Fields → Option Fields → Result Op EntryError → Type 0
ReadsOp letter collection body target result =
    Reads (λ op. IsLawfulOp op × AreMembersOf op letter collection body target)
    ((op : Op) → IsLawfulOp op → ¬ AreMembersOf op letter collection body target) result

-- this op, if it is lawful
abbrev pub ReadsIfLawful : Op → Result Op EntryError → Type 0
ReadsIfLawful op result = Reads (λ read. (read ≡ op) × IsLawfulOp op) (¬ IsLawfulOp op) result

-- the lawful op that sets these fields and removes the names of these marks, or there is none
abbrev pub ReadsFields : List ℕ → Value → Fields → Fields → Result Op EntryError → Type 0
ReadsFields ns id sets wanted result =
    Reads (λ op.
    (unsets : Trees) × (op ≡ SetFields ns id sets unsets) × (marks unsets ≡ wanted) × IsLawfulOp op)
    ((unsets : Trees) → marks unsets ≡ wanted → ¬ IsLawfulOp (SetFields ns id sets unsets)) result

-- the lawful op that changes fields of the document with this `_id`, as the body says, or there is none
abbrev pub ReadsChange : List ℕ → Value → Fields → Result Op EntryError → Type 0
ReadsChange ns id body result =
    Reads (λ op. IsLawfulOp op × AreMembersOf op (codes "u") ns body (Some (only_id (tree_of id))))
    ((sets : Fields) (unsets : Trees) → body ≡ changes sets (marks unsets)
    → ¬ IsLawfulOp (SetFields ns id sets unsets)) result

-- the fields of an optional part
abbrev pub given : Option Fields → Fields
given None = no_fields
given (Some fields) = fields

-- the two parts after a document's first field, or there are no such parts
abbrev pub ReadsParts : Fields → Option (Option Fields × Option Fields) → Type 0
ReadsParts o result =
    MatchOption result
    ((sets unsets : Fields)
    → fields_from 1 o ≢ part (codes "$set") sets (part (codes "$unset") unsets no_fields))
    (λ p. fields_from 1 o ≡ part (codes "$set") (given p.0) (part (codes "$unset") (given p.1) no_fields))

-- true, under a name that isn't `_id`
abbrev pub is_mark : List ℕ → Tree → Bool
is_mark name (boolean truth) = truth && not (bytes_eq name (codes "_id"))
is_mark name _ = false

abbrev pub are_marks : Fields → Bool
are_marks no_fields = true
are_marks (field name value rest) = is_mark name value && are_marks rest

-- the names as strings
abbrev pub names_in : Fields → Trees
names_in no_fields = no_items
names_in (field name value rest) = item (text name) (names_in rest)
