-- How large an entry may be to fit into a record.
use Rattle.std.specs.Prelude.{◌≤◌}
use Rattle.bson_doc.specs.Length.{document_length, document_levels}
use Rattle.oplog_entry.specs.declared.entry.Entry.{Entry}
use Rattle.entry_bytes.specs.Layout.{document_of}

-- at most 1,048,576 bytes and 103 levels
pub record IsWithinEntry (entry : Entry) : Type 0 where
  pub bytes : document_length (document_of entry) ≤ 1048576
  pub levels : document_levels (document_of entry) ≤ 103
