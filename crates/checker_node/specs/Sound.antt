-- What is true of each node in every run, and needed for its next step.
use Rattle.std.specs.Prelude.{◌≡◌, ◌<◌, ◌≤◌, ◌^◌, ◌-◌, true, All, IfSome, IsSome, Option, length}
use Rattle.oplog_entry.specs.Lawful.{IsLawfulOp, IsSession}
use Rattle.oplog_entry.specs.Step.{place_of}
use Rattle.oplog_entry.specs.declared.entry.Op.{Op}
use Rattle.oplog_entry.specs.declared.entry.Session.{Session}
use Rattle.oplog_store.specs.Log.{IsOplog}
use Rattle.repl_msg.specs.declared.message.FetchReply.{FetchReply}
use Rattle.safety_laws.specs.Sound.{IsSoundNode}
use Rattle.set_model.specs.Fetched.{Follows}
use Rattle.set_model.specs.Node.{Node}

-- its numbers have room
pub record HasRoom (node : Node) : Type 0 where
  pub number : node.number < 50
  pub term : node.term < 2 ^ 62
  pub seen : node.seen < 2 ^ 64 - 1
  pub rollback : node.rollback < 2 ^ 62
  pub members : length node.config.members ≤ 50
  pub first : length node.first.members ≤ 50

-- its numbers have room, and if it is up, so have its log and what its records give
pub record IsSound (node : Node) : Type 0 where
  pub room : HasRoom node
  pub logs : node.up ≡ true → IsSoundNode node

-- a node that is up
pub record IsReady (node : Node) : Type 0 where
  pub room : HasRoom node
  pub logs : IsSoundNode node

-- an op of a session, or of none, may be logged at the node's next optime
pub record CanLog (node : Node) (op : Op) (session : Option Session) : Type 0 where
  pub term : node.term < 2 ^ 63
  pub seen : node.seen < 2 ^ 64 - 1
  pub terms : All (λ entry. entry.optime.term ≤ node.term) node.log
  pub marked : All (λ entry. entry.optime.ts ≤ node.seen) node.log
  pub lawful : IsLawfulOp op
  pub numbered : IfSome session IsSession
  pub touches : IfSome session (λ _. IsSome (place_of op))

-- the entries of an answer are in order, and continue its base
pub record GoOn (reply : FetchReply) : Type 0 where
  pub order : IsOplog reply.entries
  pub base : All (Follows reply.base) reply.entries
