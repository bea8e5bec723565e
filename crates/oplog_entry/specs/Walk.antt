-- A changed document, field by field: first the fields that stay, each with its new value, then the new ones.
use Rattle.std.specs.Prelude.{ℕ, List, is_some, unwrap_or, if◌then◌else◌}
use Rattle.bson_doc.specs.Tree.{Fields, no_fields, field, found}
use Rattle.oplog_entry.specs.Lawful.{is_among}

-- some fields, and then others
abbrev pub join : Fields → Fields → Fields
join no_fields later = later
join (field name value rest) later = field name value (join rest later)

-- the fields of a document that stay, each with its new value where there is one
abbrev pub staying : List (List ℕ) → Fields → Fields → Fields
staying gone sets no_fields = no_fields
staying gone sets (field name value rest) =
    if is_among name gone then staying gone sets rest
    else field name (unwrap_or (found name sets) value) (staying gone sets rest)

-- the fields that are new to a document
abbrev pub fresh : List (List ℕ) → Fields → Fields → Fields
fresh gone d no_fields = no_fields
fresh gone d (field name value rest) =
    if is_among name gone then fresh gone d rest
    else (if is_some (found name d) then fresh gone d rest else field name value (fresh gone d rest))
