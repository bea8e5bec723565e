-- The open slot of a writer.
use Rattle.std.specs.Prelude.{Option, None, Some, Result, Ok, Err}
use Rattle.rs_optime.specs.declared.optime.OpTime.{OpTime}
use Rattle.oplog_entry.specs.declared.entry.Op.{Op}
use Rattle.set_model.specs.declared.writer.Writer.{Writer}
use Rattle.set_model.specs.declared.writer.Writer.TheVariants.{Open, Done, Lost}
use Rattle.set_model.specs.declared.reply.Refusal.{Refusal}
use Rattle.set_model.specs.declared.reply.Refusal.TheVariants.{NoSuchWriter, SteppedDown}

-- the slot with its op, or why there is none
abbrev pub slot_of : Option Writer → Result (OpTime × Op) Refusal
slot_of (Some (Open at op)) = Ok (at, op)
slot_of (Some (Lost term)) = Err (SteppedDown term)
slot_of (Some (Done at)) = Err NoSuchWriter
slot_of None = Err NoSuchWriter
