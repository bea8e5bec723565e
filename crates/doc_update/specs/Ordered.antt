-- Fields in byte order of their names.
use Rattle.std.specs.Prelude.{ℕ, List, [], ◌∷◌}
use Rattle.std.specs.Ordering.{nat_cmp}
use Rattle.std.specs.Cmp.Lexicographic.{slice_cmp}
use Rattle.std.specs.declared.cmp.Ordering.{Ordering}
use Rattle.std.specs.declared.cmp.Ordering.TheVariants.{Less, Equal, Greater}
use Rattle.bson_doc.specs.Tree.{Tree, text, Fields, no_fields, field, Trees, no_items, item}

abbrev pub by_order : Ordering → Fields → Fields → Fields → Fields
by_order Less before here after = before
by_order Equal before here after = here
by_order Greater before here after = after

-- a field in its place among fields in byte order of their names
abbrev pub placed : Fields → List ℕ → Tree → Fields
placed no_fields name value = field name value no_fields
placed (field first one rest) name value =
    by_order (slice_cmp nat_cmp name first) (field name value (field first one rest)) (field first value rest)
    (field first one (placed rest name value))

-- each of these fields in its place among others
abbrev pub placed_all : Fields → Fields → Fields
placed_all no_fields others = others
placed_all (field name value rest) others = placed (placed_all rest others) name value

abbrev pub in_byte_order : Fields → Fields
in_byte_order fields = placed_all fields no_fields

-- names as strings
abbrev pub as_strings : List (List ℕ) → Trees
as_strings [] = no_items
as_strings (name ∷ names) = item (text name) (as_strings names)
