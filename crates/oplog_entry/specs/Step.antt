-- What an op does to one document.
use Rattle.std.specs.Prelude.{ℕ, Bool, false, List, [], ◌∷◌, fold, Option, None, Some, codes, option_and_then, option_map}
use Rattle.std.specs.Ordering.{eq_by_cmp}
use Rattle.bson_doc.specs.Tree.{text, Fields, no_fields, field, Trees, no_items, item, found, with_set, without}
use Rattle.bson_doc.specs.Key.{key_of}
use Rattle.bson_doc.specs.Place.{Place, place_cmp}
use Rattle.bson_doc.specs.View.{tree_of}
use Rattle.bson_doc.specs.declared.key.IdKey.{IdKey}
use Rattle.oplog_entry.specs.declared.entry.Op.{Op}
use Rattle.oplog_entry.specs.declared.entry.Op.TheVariants.{Insert, Replace, Fields as SetFields, Delete, Noop, Note}

-- the key of a document: that of its `_id`
abbrev pub id_key : Fields → Option IdKey
id_key document = option_and_then key_of (found (codes "_id") document)

-- the document of a collection that a key names
abbrev pub place_in : List ℕ → Option IdKey → Option Place
place_in collection key = option_map (λ k. (collection, k)) key

-- the collection and the key of the document that an op touches
abbrev pub place_of : Op → Option Place
place_of (Insert ns o) = place_in ns (id_key o)
place_of (Replace ns id o) = place_in ns (key_of (tree_of id))
place_of (SetFields ns id sets unsets) = place_in ns (key_of (tree_of id))
place_of (Delete ns id) = place_in ns (key_of (tree_of id))
place_of Noop = None
place_of Note = None

-- whether what an op touches is the document at a place
abbrev pub is_at : Option Place → Place → Bool
is_at None place = false
is_at (Some own) place = eq_by_cmp place_cmp own place

-- with each of these fields set, in their order: an existing name keeps its place, and a new one goes
-- to the end
abbrev pub with_sets : Fields → Fields → Fields
with_sets document no_fields = document
with_sets document (field name value rest) = with_sets (with_set document name value) rest

-- the strings among some values
abbrev pub strings_of : Trees → List (List ℕ)
strings_of no_items = []
strings_of (item (text bytes) rest) = bytes ∷ strings_of rest
strings_of (item _ rest) = strings_of rest

-- the document with some fields set, and then the fields of some names removed
abbrev pub changed : Fields → Fields → Trees → Fields
changed document sets unsets = fold without (with_sets document sets) (strings_of unsets)

-- the document at an op's place after the op. Without a document there is no field to change
abbrev pub document_after : Op → Option Fields → Option Fields
document_after (Insert ns o) before = Some o
document_after (Replace ns id o) before = Some o
document_after (SetFields ns id sets unsets) before =
    option_map (λ document. changed document sets unsets) before
document_after (Delete ns id) before = None
document_after Noop before = before
document_after Note before = before
