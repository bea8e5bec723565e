-- The documents that a map's entries represent.
use Rattle.std.specs.Prelude.{List}
use Rattle.std.specs.FinMap.{from_entries}
use Rattle.bson_doc.specs.Tree.{Fields}
use Rattle.bson_doc.specs.Place.{Place, place_cmp}
use Rattle.oplog_entry.specs.Docs.{Documents}

abbrev pub documents_of : List (Place × Fields) → Documents
documents_of entries = from_entries {R = place_cmp} entries
