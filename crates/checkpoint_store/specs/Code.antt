-- How a proof tells documents by their places apart.
use Rattle.std.specs.Coded.{Coded, coded×, coded_list, coded_ℕ}
use Rattle.std.specs.FinMap as maps
use Rattle.bson_doc.specs.Code.{fields_code}
use Rattle.bson_doc.specs.contracts.key.IdKey.{the_row as key_row}
use Rattle.oplog_entry.specs.Docs.{Documents}

abbrev pub documents_code : Coded Documents
documents_code = maps.code (coded× (coded_list coded_ℕ) key_row.coded) fields_code
