-- How far a log is durable with one more record.
use Rattle.std.specs.Prelude.{nat_lt, List, length, take, if◌then◌else◌}
use Rattle.rs_optime.specs.declared.optime.OpTime.{OpTime}
use Rattle.oplog_entry.specs.declared.entry.Entry.{Entry}
use Rattle.oplog_entry.specs.Visible.{last_of}
use Rattle.set_model.specs.Points.{earlier_of}

-- with the next of some unjournaled entries, by how much is visible
abbrev pub point_after : List Entry → OpTime → OpTime
point_after entries visible =
    if nat_lt 2000 (length entries) then earlier_of visible (last_of (take 2000 entries)) else visible
