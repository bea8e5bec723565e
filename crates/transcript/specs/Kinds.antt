-- Kinds of replies and of refusals, which separate functions print.
use Rattle.std.specs.Prelude.{Bool, true, false}
use Rattle.set_model.specs.declared.reply.Refusal.{Refusal}
use Rattle.set_model.specs.declared.reply.Refusal.TheVariants as refusals
use Rattle.set_model.specs.declared.reply.Reply.{Reply}
use Rattle.set_model.specs.declared.reply.Reply.TheVariants.{Won, Primary, Candidate, DryRun, Secondary, State, Sent, SentTo, Replied, Votes, VoteRefused, DryVotes, Heard, Took, Counted, RolledBack, Ignored, Applied, Flushed, Checkpoint, Config, Down, Up, Armed, Clock}

-- the reply is about an election or a message
abbrev pub is_of_protocol : Reply → Bool
is_of_protocol (Won term) = true
is_of_protocol (Primary term noop) = true
is_of_protocol (Candidate term first count) = true
is_of_protocol (DryRun term first count) = true
is_of_protocol Secondary = true
is_of_protocol (Sent message) = true
is_of_protocol (SentTo message source) = true
is_of_protocol (Replied message) = true
is_of_protocol (Votes given needed) = true
is_of_protocol (VoteRefused reason) = true
is_of_protocol (DryVotes given needed) = true
is_of_protocol Heard = true
is_of_protocol (Took count last) = true
is_of_protocol (Counted commit) = true
is_of_protocol (Ignored reason) = true
is_of_protocol _ = false

-- the reply is about what a node stores, or about the node itself
abbrev pub is_of_node : Reply → Bool
is_of_node (State role term vote last durable applied commit config rollback) = true
is_of_node (RolledBack to removed) = true
is_of_node (Applied count to) = true
is_of_node (Flushed count to) = true
is_of_node (Checkpoint at) = true
is_of_node (Config term version) = true
is_of_node Down = true
is_of_node (Up last) = true
is_of_node Armed = true
is_of_node (Clock seconds) = true
is_of_node _ = false

-- a new configuration can be refused with this
abbrev pub is_of_configs : Refusal → Bool
is_of_configs refusals.WrongVersion = true
is_of_configs (refusals.ConfigRule rule) = true
is_of_configs refusals.PrimaryNotMember = true
is_of_configs refusals.TwoVoters = true
is_of_configs (refusals.ConfigNotCommitted count needed) = true
is_of_configs (refusals.TermNotCommitted commit) = true
is_of_configs (refusals.OplogNotCommitted count needed) = true
is_of_configs _ = false
