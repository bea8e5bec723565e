-- The document of an entry is no longer and no deeper than an oplog takes, if its op's documents may be
-- stored.
use Rattle.std.proofs.Common.{◌≡◌, ◌≤◌, ◌+◌, ◌*◌, ℕ, length, List, [], Option, None, Some, refl, ap, arith, codes, max}
use Rattle.rs_optime.specs.declared.optime.OpTime.{OpTime}
use Rattle.bson_doc.specs.Key.{key_of}
use Rattle.bson_doc.specs.Place.{Place}
use Rattle.bson_doc.specs.Tree.{Tree, text, Fields, no_fields, field, Trees, no_items, item}
use Rattle.bson_doc.specs.View.{tree_of}
use Rattle.bson_doc.specs.Length.{value_length, fields_length, value_levels, fields_levels, document_length, document_levels}
use Rattle.entry_bytes.specs.Layout.{letter_of, collection_of, only_id, marks, part, changes, body_of, session_members, last_members, members, document_of}
use Rattle.oplog_entry.specs.Step.{id_key, place_of}
use Rattle.oplog_entry.specs.declared.entry.Entry.{Entry}
use Rattle.oplog_entry.specs.declared.entry.Op.{Op}
use Rattle.oplog_entry.specs.declared.entry.Session.{Session}
use Rattle.oplog_entry.specs.declared.entry.Op.TheVariants as ops
use Rattle.doc_update.proofs.ChangeLemmas.{strings_length}
use Rattle.doc_update.proofs.StoredLemmas.{IsShort, not_large, place-key}

-- ---- the parts of an entry

-- a member `o2`, with the id of a document in it
abbrev target_length : Option Fields → ℕ
target_length None = 0
target_length (Some target) = 9 + fields_length target

abbrev target_levels : Option Fields → ℕ
target_levels None = 0
target_levels (Some target) = 1 + fields_levels target

-- the members `lsid` and `txnNumber`
abbrev session_length : Option Session → ℕ
session_length None = 0
session_length (Some session) = 33

after_length : (session : Option Session) → fields_length (session_members session) ≡ session_length session
after_length None = refl
after_length (Some session) =
    let id : length (codes "lsid") ≡ 4 = refl in
    let number : length (codes "txnNumber") ≡ 9 = refl in
    omega (arith, id, number)

after_levels : (session : Option Session) → fields_levels (session_members session) ≡ 0
after_levels None = refl
after_levels (Some session) = omega arith

last_length : (target : Option Fields) (session : Option Session) → fields_length (last_members target session) ≡ target_length target + session_length session
last_length None session = omega (arith, after_length session)
last_length (Some target) session = let name : length (codes "o2") ≡ 2 = refl in omega (arith, name, after_length session)

last_levels : (target : Option Fields) (session : Option Session) → fields_levels (last_members target session) ≤ target_levels target
last_levels None session = omega (arith, after_levels session)
last_levels (Some target) session = omega (arith, after_levels session)

members_length : (at : OpTime) (letter collection : List ℕ) (body : Fields) (target : Option Fields) (session : Option Session)
    → document_length (members at letter collection body target session) ≡ 61 + length letter + length collection + fields_length body + target_length target + session_length session
members_length at letter collection body target session =
    let ts : length (codes "ts") ≡ 2 = refl in
    let t : length (codes "t") ≡ 1 = refl in
    let v : length (codes "v") ≡ 1 = refl in
    let op : length (codes "op") ≡ 2 = refl in
    let ns : length (codes "ns") ≡ 2 = refl in
    let o : length (codes "o") ≡ 1 = refl in
    let last : fields_length (last_members target session) ≡ target_length target + session_length session = last_length target session in
    omega (arith, ts, t, v, op, ns, o, last)

members_levels : (at : OpTime) (letter collection : List ℕ) (body : Fields) (target : Option Fields) (session : Option Session)
    → document_levels (members at letter collection body target session) ≤ 2 + max (fields_levels body) (target_levels target)
members_levels at letter collection body target session =
    let last : fields_levels (last_members target session) ≤ target_levels target = last_levels target session in
    omega (arith, last)

-- ---- an update

marks_length : (unsets : Trees) → fields_length (marks unsets) ≤ 2 * strings_length unsets
marks_length no_items = omega arith
marks_length (item (text name) rest) = let later : fields_length (marks rest) ≤ 2 * strings_length rest = marks_length rest in omega (arith, later)
marks_length (item Tree.null rest) = marks_length rest
marks_length (item (Tree.int32 n) rest) = marks_length rest
marks_length (item (Tree.int64 n) rest) = marks_length rest
marks_length (item (Tree.document d) rest) = marks_length rest
marks_length (item (Tree.array a) rest) = marks_length rest
marks_length (item (Tree.binary s b) rest) = marks_length rest
marks_length (item (Tree.object_id b) rest) = marks_length rest
marks_length (item (Tree.boolean b) rest) = marks_length rest
marks_length (item (Tree.date d) rest) = marks_length rest
marks_length (item (Tree.timestamp t) rest) = marks_length rest

marks_levels : (unsets : Trees) → fields_levels (marks unsets) ≡ 0
marks_levels no_items = refl
marks_levels (item (text name) rest) = let later : fields_levels (marks rest) ≡ 0 = marks_levels rest in omega (arith, later)
marks_levels (item Tree.null rest) = marks_levels rest
marks_levels (item (Tree.int32 n) rest) = marks_levels rest
marks_levels (item (Tree.int64 n) rest) = marks_levels rest
marks_levels (item (Tree.document d) rest) = marks_levels rest
marks_levels (item (Tree.array a) rest) = marks_levels rest
marks_levels (item (Tree.binary s b) rest) = marks_levels rest
marks_levels (item (Tree.object_id b) rest) = marks_levels rest
marks_levels (item (Tree.boolean b) rest) = marks_levels rest
marks_levels (item (Tree.date d) rest) = marks_levels rest
marks_levels (item (Tree.timestamp t) rest) = marks_levels rest

part_length : (name : List ℕ) (fields rest : Fields) → fields_length (part name fields rest) ≤ 7 + length name + fields_length fields + fields_length rest
part_length name no_fields rest = omega arith
part_length name (field first value others) rest = omega arith

part_levels : (name : List ℕ) (fields rest : Fields) → fields_levels (part name fields rest) ≤ max (1 + fields_levels fields) (fields_levels rest)
part_levels name no_fields rest = omega arith
part_levels name (field first value others) rest = omega arith

changes_length : (sets unsets : Fields) → fields_length (changes sets unsets) ≤ 32 + fields_length sets + fields_length unsets
changes_length sets unsets =
    let v : length (codes "$v") ≡ 2 = refl in
    let set : length (codes "$set") ≡ 4 = refl in
    let unset : length (codes "$unset") ≡ 6 = refl in
    let one : fields_length (part (codes "$set") sets (part (codes "$unset") unsets no_fields)) ≤ 7 + length (codes "$set") + fields_length sets + fields_length (part (codes "$unset") unsets no_fields) =
    part_length (codes "$set") sets (part (codes "$unset") unsets no_fields) in
    let two : fields_length (part (codes "$unset") unsets no_fields) ≤ 7 + length (codes "$unset") + fields_length unsets + 0 = part_length (codes "$unset") unsets no_fields in
    omega (arith, v, set, unset, one, two)

changes_levels : (sets unsets : Fields) → fields_levels (changes sets unsets) ≤ 1 + max (fields_levels sets) (fields_levels unsets)
changes_levels sets unsets =
    let one : fields_levels (part (codes "$set") sets (part (codes "$unset") unsets no_fields)) ≤ max (1 + fields_levels sets) (fields_levels (part (codes "$unset") unsets no_fields)) =
    part_levels (codes "$set") sets (part (codes "$unset") unsets no_fields) in
    let two : fields_levels (part (codes "$unset") unsets no_fields) ≤ max (1 + fields_levels unsets) 0 = part_levels (codes "$unset") unsets no_fields in
    omega (arith, one, two)

id_length : (id : Tree) → fields_length (only_id id) ≡ 5 + value_length id
id_length id = let name : length (codes "_id") ≡ 3 = refl in omega (arith, name)

-- ---- the whole

-- at most 1,048,576 bytes and 103 levels
abbrev pub IsWithin : Entry → Type 0
IsWithin entry = (document_length (document_of entry) ≤ 1048576) × (document_levels (document_of entry) ≤ 103)

session_short : (session : Option Session) → session_length session ≤ 33
session_short None = omega arith
session_short (Some session) = omega arith

-- parts that are short make an entry that is
short_parts : (at : OpTime) (letter collection : List ℕ) (body : Fields) (target : Option Fields) (session : Option Session) → length letter ≤ 1 → length collection ≤ 64
    → fields_length body + target_length target ≤ 1048417 → fields_levels body ≤ 101 → target_levels target ≤ 101
    → (document_length (members at letter collection body target session) ≤ 1048576) × (document_levels (members at letter collection body target session) ≤ 103)
short_parts at letter collection body target session one name parts deep deep_too =
    let length_is : document_length (members at letter collection body target session) ≡ 61 + length letter + length collection + fields_length body + target_length target + session_length session = members_length at letter collection body target session in
    let levels_are : document_levels (members at letter collection body target session) ≤ 2 + max (fields_levels body) (target_levels target) = members_levels at letter collection body target session in
    (omega (arith, length_is, one, name, parts, session_short session), omega (arith, levels_are, deep, deep_too))

-- a letter
letter_length : (op : Op) → length (letter_of op) ≤ 1
letter_length (ops.Insert ns o) = omega arith
letter_length (ops.Replace ns id o) = omega arith
letter_length (ops.Fields ns id sets unsets) = omega arith
letter_length (ops.Delete ns id) = omega arith
letter_length ops.Noop = omega arith
letter_length ops.Note = omega arith

-- the collection of an op is that of its place
collection_length : (op : Op) (place : Place) → place_of op ≡ Some place → length place.0 ≤ 64 → length (collection_of op) ≤ 64
collection_length (ops.Insert ns o) place is name = let same : length ns ≡ length place.0 = ap length (place-key ns (id_key o) place is).0 in omega (arith, same, name)
collection_length (ops.Replace ns id o) place is name = let same : length ns ≡ length place.0 = ap length (place-key ns (key_of (tree_of id)) place is).0 in omega (arith, same, name)
collection_length (ops.Fields ns id sets unsets) place is name = let same : length ns ≡ length place.0 = ap length (place-key ns (key_of (tree_of id)) place is).0 in omega (arith, same, name)
collection_length (ops.Delete ns id) place is name = let same : length ns ≡ length place.0 = ap length (place-key ns (key_of (tree_of id)) place is).0 in omega (arith, same, name)
collection_length ops.Noop place is name = omega arith
collection_length ops.Note place is name = omega arith

-- the id of a document in a member of its own
target_short : (id : Tree) (most : ℕ) → value_length id ≤ most → value_levels id ≡ 0 → (target_length (Some (only_id id)) ≤ 14 + most) × (target_levels (Some (only_id id)) ≤ 101)
target_short id most within flat = let whole : fields_length (only_id id) ≡ 5 + value_length id = id_length id in (omega (arith, whole, within), omega (arith, flat))

pub short_within : (at : OpTime) (op : Op) (session : Option Session) (place : Place) → place_of op ≡ Some place → length place.0 ≤ 64 → IsShort op → IsWithin (record { optime = at; op = op; session = session })
short_within at (ops.Insert ns o) session place is name short =
    let size : (fields_length o ≤ 262139) × (fields_levels o ≤ 99) = not_large o short in
    short_parts at (letter_of (ops.Insert ns o)) ns o None session (letter_length (ops.Insert ns o)) (collection_length (ops.Insert ns o) place is name) (let most : fields_length o ≤ 262139 = size.0 in omega (arith, most))
    (let deep : fields_levels o ≤ 99 = size.1 in omega (arith, deep)) (omega arith)
short_within at (ops.Replace ns id o) session place is name short =
    let size : (fields_length o ≤ 262139) × (fields_levels o ≤ 99) = not_large o short.0 in
    let target : (target_length (Some (only_id (tree_of id))) ≤ 14 + 262143) × (target_levels (Some (only_id (tree_of id))) ≤ 101) = target_short (tree_of id) 262143 short.1 short.2 in
    short_parts at (letter_of (ops.Replace ns id o)) ns o (Some (only_id (tree_of id))) session (letter_length (ops.Replace ns id o)) (collection_length (ops.Replace ns id o) place is name)
    (let most : fields_length o ≤ 262139 = size.0 in let more : target_length (Some (only_id (tree_of id))) ≤ 14 + 262143 = target.0 in omega (arith, most, more))
    (let deep : fields_levels o ≤ 99 = size.1 in omega (arith, deep)) target.1
short_within at (ops.Fields ns id sets unsets) session place is name short =
    short_parts at (letter_of (ops.Fields ns id sets unsets)) ns (changes sets (marks unsets)) (Some (only_id (tree_of id))) session (letter_length (ops.Fields ns id sets unsets)) (collection_length (ops.Fields ns id sets unsets) place is name)
    lengths levels (target_short (tree_of id) 524278 (let both : value_length (tree_of id) + 2 * strings_length unsets ≤ 524278 = short.2 in omega (arith, both)) short.3).1
  where
    lengths : fields_length (changes sets (marks unsets)) + target_length (Some (only_id (tree_of id))) ≤ 1048417
    lengths =
        let whole : fields_length (changes sets (marks unsets)) ≤ 32 + fields_length sets + fields_length (marks unsets) = changes_length sets (marks unsets) in
        let gone : fields_length (marks unsets) ≤ 2 * strings_length unsets = marks_length unsets in
        let set : fields_length sets ≤ 262139 = short.0 in
        let both : value_length (tree_of id) + 2 * strings_length unsets ≤ 524278 = short.2 in
        let only : fields_length (only_id (tree_of id)) ≡ 5 + value_length (tree_of id) = id_length (tree_of id) in
        omega (arith, whole, gone, set, both, only)

    levels : fields_levels (changes sets (marks unsets)) ≤ 101
    levels =
        let whole : fields_levels (changes sets (marks unsets)) ≤ 1 + max (fields_levels sets) (fields_levels (marks unsets)) = changes_levels sets (marks unsets) in
        let gone : fields_levels (marks unsets) ≡ 0 = marks_levels unsets in
        let set : fields_levels sets ≤ 99 = short.1 in
        omega (arith, whole, gone, set)
short_within at (ops.Delete ns id) session place is name short =
    short_parts at (letter_of (ops.Delete ns id)) ns (only_id (tree_of id)) None session (letter_length (ops.Delete ns id)) (collection_length (ops.Delete ns id) place is name)
    (let only : fields_length (only_id (tree_of id)) ≡ 5 + value_length (tree_of id) = id_length (tree_of id) in let most : value_length (tree_of id) ≤ 262143 = short.0 in omega (arith, only, most))
    (let flat : value_levels (tree_of id) ≡ 0 = short.1 in omega (arith, flat)) (omega arith)
short_within at ops.Noop session place is name short = cc is
short_within at ops.Note session place is name short = cc is

-- and so are a no-op and a note
pub noop_within : (at : OpTime) → IsWithin (record { optime = at; op = ops.Noop; session = None })
noop_within at =
    short_parts at (letter_of ops.Noop) [] (body_of ops.Noop) None None (letter_length ops.Noop) (omega arith) (omega arith) (omega arith) (omega arith)

pub note_within : (at : OpTime) → IsWithin (record { optime = at; op = ops.Note; session = None })
note_within at =
    short_parts at (letter_of ops.Note) [] (body_of ops.Note) None None (letter_length ops.Note) (omega arith) (omega arith) (omega arith) (omega arith)
