-- Entries of a log by their optimes.
use Rattle.std.specs.Prelude.{List, [], ◌∷◌, Option, None, Some, if◌then◌else◌}
use Rattle.std.specs.List.{filter_map}
use Rattle.rs_optime.specs.declared.optime.OpTime.{OpTime}
use Rattle.oplog_entry.specs.declared.entry.Entry.{Entry}
use Rattle.repl_msg.specs.Logs.{same_optime}

-- the first entry with an optime
abbrev pub entry_at : List Entry → OpTime → Option Entry
entry_at [] at = None
entry_at (entry ∷ log) at = if same_optime entry.optime at then Some entry else entry_at log at

-- those with these optimes
abbrev pub entries_at : List Entry → List OpTime → List Entry
entries_at log optimes = filter_map (entry_at log) optimes
