-- A map's entries as fields.
use Rattle.std.specs.Prelude.{ℕ, List, [], ◌∷◌}
use Rattle.bson_doc.specs.Tree.{Fields, no_fields, field}
use Rattle.bson_doc.specs.View.{tree_of}
use Rattle.bson_doc.specs.declared.doc.Value.{Value}

abbrev pub fields_in : List (List ℕ × Value) → Fields
fields_in [] = no_fields
fields_in (e ∷ entries) = field e.0 (tree_of e.1) (fields_in entries)
