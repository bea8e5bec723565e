-- The records that a node stored.
use Rattle.std.specs.Prelude.{[]}
use Rattle.set_model.specs.Stores.{records_after}
use Rattle.set_model.specs.declared.store.Store.{Store}
use Rattle.set_model.specs.declared.records.Records.{Records}

abbrev pub no_records : Records
no_records = record { list = [] }

-- with what was stored, if it is a record
abbrev pub with_stored : Records → Store → Records
with_stored records item = record { list = records_after records.list item }
