-- How a proof tells shelves apart.
use Rattle.std.specs.Prelude.{List, refl}
use Rattle.std.specs.Coded.{Coded, code_by, coded×, coded_list, coded_option, coded_ℕ}
use Rattle.std.specs.FinMap as maps
use Rattle.bson_doc.specs.Code.{fields_code}
use Rattle.bson_doc.specs.Place.{Place}
use Rattle.bson_doc.specs.contracts.key.IdKey.{the_row as key_row}
use Rattle.oplog_entry.specs.Docs.{Documents}
use Rattle.doc_shelf.specs.Shelf.{Before, Shelf}

abbrev place_code : Coded Place
place_code = coded× (coded_list coded_ℕ) key_row.coded

abbrev pub before_code : Coded Before
before_code = coded_option (coded× place_code (coded_option fields_code))

abbrev pub shelf_code : Coded Shelf
shelf_code =
    code_by (Documents × List Before)
    (coded× (maps.code place_code fields_code) (coded_list before_code))
    (λ s. (s.documents, s.before)) (λ p. record { documents = p.0; before = p.1 }) (λ _. refl)
