-- What a write logs.
use Rattle.std.specs.Prelude.{⊤, IsSome, Result, Ok, Err}
use Rattle.doc_update.specs.declared.write.Prepared.{Prepared}
use Rattle.doc_update.specs.declared.write.Prepared.TheVariants.{Entry, NoMatch, Unchanged}
use Rattle.oplog_entry.specs.Lawful.{IsLawfulOp}
use Rattle.oplog_entry.specs.Step.{place_of}
use Rattle.oplog_entry.specs.declared.entry.Op.{Op}
use Rattle.set_model.specs.declared.reply.Refusal.{Refusal}
use Rattle.set_model.specs.declared.reply.Reply.{Reply}
use Rattle.set_model.specs.declared.reply.Reply.TheVariants as reply

-- it is lawful, and touches a document
abbrev pub MayBeLogged : Op → Type 0
MayBeLogged op = IsLawfulOp op × IsSome (place_of op)

-- so is what an effect logs
abbrev pub LogsSuch : Prepared → Type 0
LogsSuch (Entry op after) = MayBeLogged op
LogsSuch NoMatch = ⊤
LogsSuch Unchanged = ⊤

-- the op that is to be logged, or the reply where there is none
abbrev pub op_to_log : Result Prepared Refusal → Result Op Reply
op_to_log (Ok (Entry op after)) = Ok op
op_to_log (Ok NoMatch) = Err reply.NoMatch
op_to_log (Ok Unchanged) = Err reply.Unchanged
op_to_log (Err why) = Err (reply.Refused why)
