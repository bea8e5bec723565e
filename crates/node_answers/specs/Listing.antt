-- The documents that are found at some places.
use Rattle.std.specs.Prelude.{ℕ, List, Option}
use Rattle.std.specs.List.{filter_map}
use Rattle.std.specs.Option.{option_map}
use Rattle.bson_doc.specs.Place.{Place}
use Rattle.bson_doc.specs.Tree.{Fields}

-- each with its collection
abbrev pub found_at : (Place → Option Fields) → List Place → List (List ℕ × Fields)
found_at shown places =
    filter_map (λ place. option_map (λ document. (place.0, document)) (shown place)) places
