-- The effect of a write on the existing document, if there is one.
use Rattle.std.specs.Prelude.{ℕ, Bool, ◌||◌, nat_lt, List, Option, None, Some, Result, Ok, Err, codes, is_some, if◌then◌else◌}
use Rattle.bson_doc.specs.Tree.{Tree, null, Fields, no_fields, field, found, without, Trees}
use Rattle.bson_doc.specs.declared.doc.Value.{Value}
use Rattle.bson_doc.specs.Length.{document_length, document_levels}
use Rattle.oplog_entry.specs.Step.{changed}
use Rattle.oplog_entry.specs.Walk.{join}
use Rattle.oplog_entry.specs.declared.entry.Op.{Op}
use Rattle.oplog_entry.specs.declared.entry.Op.TheVariants as ops
use Rattle.doc_update.specs.Check.{checked, given, names_of}
use Rattle.doc_update.specs.Increment.{has_wrong_side, has_overflow, sums}
use Rattle.doc_update.specs.Ordered.{in_byte_order, as_strings}
use Rattle.bson_doc.specs.Same.{same_fields}
use Rattle.doc_update.specs.declared.write.WriteOp.{WriteOp}
use Rattle.doc_update.specs.declared.write.WriteOp.TheVariants.{Insert, Replace, Update, Delete}
use Rattle.doc_update.specs.declared.write.Prepared.{Prepared}
use Rattle.doc_update.specs.declared.write.Prepared.TheVariants.{Entry, NoMatch, Unchanged}
use Rattle.doc_update.specs.Refusal.{Reason, DuplicateKey, IncType, IncOverflow, DocTooLarge}

-- a document with an `_id` before the other fields
abbrev pub id_first : Option Tree → Fields → Fields
id_first None doc = doc
id_first (Some id) doc = field (codes "_id") id (without doc (codes "_id"))

-- longer than 262,144 bytes or deeper than 100 levels
abbrev pub is_too_large : Fields → Bool
is_too_large doc = nat_lt 262144 (document_length doc) || nat_lt 100 (document_levels doc)

-- an op that leaves a document, unless that is too large
abbrev pub stored : Op → Fields → Result Prepared Reason
stored op after = if is_too_large after then Err DocTooLarge else Ok (Entry op (Some after))

-- nothing is logged where the document stays as it is
abbrev pub written : Op → Fields → Fields → Result Prepared Reason
written op before after = if same_fields after before then Ok Unchanged else stored op after

-- the fields given to an operator; none where it is absent
abbrev pub fields_under : Option Tree → Fields
fields_under None = no_fields
fields_under (Some value) = given value

abbrev pub under : List ℕ → Fields → Fields
under operator operators = fields_under (found operator operators)

-- those of these fields whose name is in a document
abbrev pub present : Fields → Fields → Fields
present doc no_fields = no_fields
present doc (field name value rest) =
    if is_some (found name doc) then field name null (present doc rest) else present doc rest

-- what is set: the fields of `$set` and the sums of `$inc`, in byte order of their names
abbrev pub sets_of : Fields → Fields → Fields
sets_of operators doc =
    in_byte_order (join (under (codes "$set") operators) (sums doc (under (codes "$inc") operators)))

-- the existing names of `$unset`, in byte order
abbrev pub unsets_of : Fields → Fields → Trees
unsets_of operators doc =
    as_strings (names_of (in_byte_order (present doc (under (codes "$unset") operators))))

-- the document that an update leaves
abbrev pub updated : Fields → Fields → Fields
updated operators doc = changed doc (sets_of operators doc) (unsets_of operators doc)

abbrev pub update_prepared : List ℕ → Value → Fields → Fields → Result Prepared Reason
update_prepared ns id operators doc =
    if has_wrong_side doc (under (codes "$inc") operators) then Err IncType else
    if has_overflow doc (under (codes "$inc") operators) then Err IncOverflow else
    written (ops.Fields ns id (sets_of operators doc) (unsets_of operators doc)) doc (updated operators doc)

-- the stored document has its `_id` first
abbrev pub insert_prepared : List ℕ → Fields → Result Prepared Reason
insert_prepared ns doc =
    stored (ops.Insert ns (id_first (found (codes "_id") doc) doc)) (id_first (found (codes "_id") doc) doc)

-- and a replacement keeps the existing `_id`
abbrev pub replace_prepared : List ℕ → Value → Fields → Fields → Result Prepared Reason
replace_prepared ns id doc before =
    written (ops.Replace ns id (id_first (found (codes "_id") before) doc)) before
    (id_first (found (codes "_id") before) doc)

abbrev pub delete_prepared : List ℕ → Value → Result Prepared Reason
delete_prepared ns id = Ok (Entry (ops.Delete ns id) None)

-- the effect of a write that passed the check
abbrev pub prepared : WriteOp → Option Fields → Result Prepared Reason
prepared (Insert ns doc) None = insert_prepared ns doc
prepared (Insert ns doc) (Some before) = Err DuplicateKey
prepared (Replace ns id doc) None = Ok NoMatch
prepared (Replace ns id doc) (Some before) = replace_prepared ns id doc before
prepared (Update ns id operators) None = Ok NoMatch
prepared (Update ns id operators) (Some before) = update_prepared ns id operators before
prepared (Delete ns id) None = Ok NoMatch
prepared (Delete ns id) (Some before) = delete_prepared ns id

abbrev pub unless_refused : {P : Type 0} → Result P Reason → Result Prepared Reason → Result Prepared Reason
unless_refused (Err why) outcome = Err why
unless_refused (Ok place) outcome = outcome

-- the effect of a write: the first refusal that holds, or what is logged and stored, or nothing
abbrev pub effect : WriteOp → Option Fields → Result Prepared Reason
effect op before = unless_refused (checked op) (prepared op before)
