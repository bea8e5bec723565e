-- Acknowledgements and reads: what the crates that decide them answer for a node's values, and what
-- the node answers.
use Rattle.std.specs.Prelude.{◌≡◌, List, Option, None, Some}
use Rattle.rs_optime.specs.declared.optime.OpTime.{OpTime}
use Rattle.oplog_entry.specs.declared.entry.Entry.{Entry}
use Rattle.oplog_entry.specs.Visible.{log_up_to}
use Rattle.write_concern.specs.declared.acks.Concern.{Concern}
use Rattle.write_concern.specs.declared.acks.Concern.TheVariants as part_concern
use Rattle.write_concern.specs.declared.acks.ConcernAnswer.{ConcernAnswer}
use Rattle.write_concern.specs.declared.acks.ConcernAnswer.TheVariants as part_answer
use Rattle.write_concern.specs.Answered.{answered}
use Rattle.read_concern.specs.declared.reads.Level.{Level}
use Rattle.read_concern.specs.declared.reads.Level.TheVariants as part_level
use Rattle.read_concern.specs.declared.reads.ReadAt.{ReadAt}
use Rattle.read_concern.specs.declared.reads.ReadAt.TheVariants.{Latest, At}
use Rattle.read_concern.specs.Shown.{shown_at}
use Rattle.set_model.specs.declared.command.AckConcern.{AckConcern}
use Rattle.set_model.specs.declared.command.AckConcern.TheVariants as row_concern
use Rattle.set_model.specs.declared.command.ReadLevel.{ReadLevel}
use Rattle.set_model.specs.declared.command.ReadLevel.TheVariants as row_level
use Rattle.set_model.specs.declared.reply.Refusal.{Refusal}
use Rattle.set_model.specs.declared.reply.Refusal.TheVariants as refusal
use Rattle.set_model.specs.Node.{Node}
use Rattle.set_model.specs.Roles.{is_primary}
use Rattle.set_model.specs.Points.{applied_point}
use Rattle.set_model.specs.Concerns.{unmet}
use Rattle.set_model.specs.Reads.{shown_log}

-- ---- acknowledgements

abbrev pub concern_of : AckConcern → Concern
concern_of row_concern.Majority = part_concern.Majority
concern_of (row_concern.Count count) = part_concern.Count count

abbrev pub refusal_of : ConcernAnswer → Option Refusal
refusal_of part_answer.Acked = None
refusal_of (part_answer.Waiting held needed) = Some (refusal.Waiting held needed)
refusal_of (part_answer.CannotSatisfy members) = Some (refusal.CannotSatisfy members)

-- `answer` is what a node answers to a concern
abbrev pub ConcernsAgree : Type 0
ConcernsAgree =
    (node : Node) (at : OpTime) (concern : AckConcern)
    → refusal_of (answered node.progress node.config node.number node.durable node.commit at
    (concern_of concern)) ≡ unmet node at concern

-- ---- reads

abbrev pub level_of : ReadLevel → Level
level_of row_level.Local = part_level.Local
level_of row_level.Majority = part_level.Majority

abbrev pub part_shown : List Entry → ReadAt → List Entry
part_shown log Latest = log
part_shown log (At at) = log_up_to at log

-- `snapshot` gives the part of the log that a node shows
abbrev pub ReadsAgree : Type 0
ReadsAgree =
    (node : Node) (level : ReadLevel)
    → part_shown node.log (shown_at (level_of level) (is_primary node.role) node.commit (applied_point node))
    ≡ shown_log node level
