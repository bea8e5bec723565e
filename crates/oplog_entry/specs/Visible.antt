-- How far a log can be read.
use Rattle.std.specs.Prelude.{not, List, [], ◌∷◌, Option, None, Some, filter, if◌then◌else◌}
pub use Rattle.rs_optime.specs.Order.{optime_cmp, is_before}
use Rattle.rs_optime.specs.declared.optime.OpTime.{OpTime}
use Rattle.oplog_entry.specs.declared.entry.Entry.{Entry}

-- before every entry
abbrev pub ZERO : OpTime
ZERO = record { term = 0; ts = 0 }

-- the optime of the last entry, or ZERO
abbrev pub last_of : List Entry → OpTime
last_of [] = ZERO
last_of (entry ∷ []) = entry.optime
last_of (entry ∷ next ∷ log) = last_of (next ∷ log)

-- the earlier of an optime and another one, if there is another
abbrev pub earlier : OpTime → Option OpTime → OpTime
earlier slot None = slot
earlier slot (Some other) = if is_before other slot then other else slot

-- the least open slot
abbrev pub least : List OpTime → Option OpTime
least [] = None
least (slot ∷ slots) = Some (earlier slot (least slots))

-- the entries before an optime; all entries, if there is none
abbrev pub entries_before : Option OpTime → List Entry → List Entry
entries_before None log = log
entries_before (Some slot) log = filter (λ entry. is_before entry.optime slot) log

-- the last entry before the least open slot, or ZERO: an entry after a hole can't be read yet
abbrev pub visible : List Entry → List OpTime → OpTime
visible log slots = last_of (entries_before (least slots) log)

-- the log up to an optime
abbrev pub log_up_to : OpTime → List Entry → List Entry
log_up_to o log = filter (λ entry. not (is_before o entry.optime)) log

-- the entries after an optime
abbrev pub log_after : OpTime → List Entry → List Entry
log_after o log = filter (λ entry. is_before o entry.optime) log
