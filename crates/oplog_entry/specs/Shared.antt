-- The op that its owners share.
use Rattle.std.specs.Prelude.{Option, None, Some}
use Rattle.std.specs.declared.alloc.Global.{Global}
use Rattle.std.specs.declared.sync.Arc.{Arc}
use Rattle.oplog_entry.specs.declared.entry.Op.{Op}
use Rattle.oplog_entry.specs.declared.entry.Op.TheVariants.{Noop}

-- the shared op; none means a no-op
abbrev pub op_of : Option (Arc Op Global) → Op
op_of None = Noop
op_of (Some shared) = shared.value
