-- What a write has to satisfy, whatever document exists.
use Rattle.std.specs.Prelude.{ℕ, Bool, true, false, not, ◌&&◌, ◌||◌, ◌==◌, List, [], ◌∷◌, ◌++◌, Option, None, Some, Result, Ok, Err, codes, if◌then◌else◌}
use Rattle.std.specs.List.{list_any}
use Rattle.std.specs.Str.{bytes_eq}
use Rattle.bson_doc.specs.Tree.{Tree, document, Fields, no_fields, field, found}
use Rattle.bson_doc.specs.Key.{key_of, same_key}
use Rattle.bson_doc.specs.Place.{Place}
use Rattle.bson_doc.specs.View.{tree_of}
use Rattle.bson_doc.specs.declared.key.IdKey.{IdKey}
use Rattle.oplog_entry.specs.Lawful.{is_among}
use Rattle.doc_update.specs.declared.write.WriteOp.{WriteOp}
use Rattle.doc_update.specs.declared.write.WriteOp.TheVariants.{Insert, Replace, Update, Delete}
use Rattle.doc_update.specs.Refusal.{Reason, NoId, BadIdKind, ImmutableId, BadUpdate}

abbrev pub names_of : Fields → List (List ℕ)
names_of no_fields = []
names_of (field name value rest) = name ∷ names_of rest

abbrev pub is_operator : List ℕ → Bool
is_operator name =
    bytes_eq name (codes "$set") || bytes_eq name (codes "$unset") || bytes_eq name (codes "$inc")

abbrev pub all_known : Fields → Bool
all_known no_fields = true
all_known (field name value rest) = is_operator name && all_known rest

abbrev pub is_document : Tree → Bool
is_document (document _) = true
is_document _ = false

abbrev pub all_documents : Fields → Bool
all_documents no_fields = true
all_documents (field name value rest) = is_document value && all_documents rest

abbrev pub is_empty : Fields → Bool
is_empty no_fields = true
is_empty (field name value rest) = false

-- the fields that an operator is given
abbrev pub given : Tree → Fields
given (document fields) = fields
given _ = no_fields

-- the names under all operators
abbrev pub all_names : Fields → List (List ℕ)
all_names no_fields = []
all_names (field name value rest) = names_of (given value) ++ all_names rest

-- not empty, no leading dollar sign, no dot
abbrev pub is_good : List ℕ → Bool
is_good [] = false
is_good (c ∷ cs) = not (c == 36) && not (list_any (λ b. b == 46) (c ∷ cs))

abbrev pub all_good : List (List ℕ) → Bool
all_good [] = true
all_good (name ∷ names) = is_good name && all_good names

-- some name occurs twice
abbrev pub has_twice : List (List ℕ) → Bool
has_twice [] = false
has_twice (name ∷ names) = is_among name names || has_twice names

-- the first rule that an update breaks: 1 an unknown operator, 2 no operator or one whose value isn't a
-- document, 3 a bad name, 4 a duplicate name
abbrev pub broken_rule : Fields → Option ℕ
broken_rule operators =
    if not (all_known operators) then Some 1 else
    if is_empty operators || not (all_documents operators) then Some 2 else
    if not (all_good (all_names operators)) then Some 3 else
    if has_twice (all_names operators) then Some 4 else None

-- an operator names the `_id`
abbrev pub names_id : Fields → Bool
names_id operators = is_among (codes "_id") (all_names operators)

-- the place that a key names, where there is one
abbrev pub with_key : List ℕ → Option IdKey → Result Place Reason
with_key ns None = Err BadIdKind
with_key ns (Some key) = Ok (ns, key)

abbrev pub insert_checked : List ℕ → Option Tree → Result Place Reason
insert_checked ns None = Err NoId
insert_checked ns (Some id) = with_key ns (key_of id)

-- a replacement may have an `_id`, with the same key
abbrev pub same_id : List ℕ → IdKey → Option IdKey → Result Place Reason
same_id ns key None = Err BadIdKind
same_id ns key (Some own) = if same_key own key then Ok (ns, key) else Err ImmutableId

abbrev pub replace_checked : List ℕ → Option IdKey → Option Tree → Result Place Reason
replace_checked ns None own = Err BadIdKind
replace_checked ns (Some key) None = Ok (ns, key)
replace_checked ns (Some key) (Some own) = same_id ns key (key_of own)

abbrev pub by_rule : List ℕ → IdKey → Bool → Option ℕ → Result Place Reason
by_rule ns key id_named (Some rule) = Err (BadUpdate rule)
by_rule ns key id_named None = if id_named then Err ImmutableId else Ok (ns, key)

abbrev pub update_checked : List ℕ → Option IdKey → Fields → Result Place Reason
update_checked ns None operators = Err BadIdKind
update_checked ns (Some key) operators = by_rule ns key (names_id operators) (broken_rule operators)

-- the place that a write names, or the first refusal that holds
abbrev pub checked : WriteOp → Result Place Reason
checked (Insert ns doc) = insert_checked ns (found (codes "_id") doc)
checked (Replace ns id doc) = replace_checked ns (key_of (tree_of id)) (found (codes "_id") doc)
checked (Update ns id operators) = update_checked ns (key_of (tree_of id)) operators
checked (Delete ns id) = with_key ns (key_of (tree_of id))
