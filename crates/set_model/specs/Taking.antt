-- Which messages a node can take (MongoDB's replication architecture guide; RaftMongo; MongoRaftReconfig).
use Rattle.std.specs.Prelude.{◌≡◌, ◌<◌, ◌≤◌, ◌^◌, ℕ, ◌++◌, List, None, IfSome, take, All}
use Rattle.rs_optime.specs.declared.optime.OpTime.{OpTime}
use Rattle.oplog_store.specs.Log.{IsOplog}
use Rattle.entry_bytes.specs.Sizes.{IsWithinEntry}
use Rattle.member_config.specs.Rule.{rule}
use Rattle.repl_msg.specs.Parts.{config_carried, term_asked}
use Rattle.repl_msg.specs.declared.message.Body.TheVariants as bodies
use Rattle.repl_msg.specs.declared.message.FetchReply.{FetchReply}
use Rattle.repl_msg.specs.declared.message.Message.{Message}
use Rattle.set_model.specs.Deliver.{termed}
use Rattle.set_model.specs.Fetched.{Follows, AreWithinDocument}
use Rattle.set_model.specs.Node.{Node}
use Rattle.set_model.specs.Points.{last_point}
use Rattle.set_model.specs.Rollback.{common_point, rollback_reason}
use Rattle.set_model.specs.Safety.{AtMost}

-- The entries of an answer continue its base, each fits into a record, and a log that ends at the base can be
-- continued by them.
pub record CanTakeEntries (node : Node) (term : ℕ) (fetched : FetchReply) : Type 0 where
  pub order : IsOplog fetched.entries
  pub base : All (Follows fetched.base) fetched.entries
  pub entries : All IsWithinEntry fetched.entries
  pub terms : All (λ entry. entry.optime.term ≤ term) fetched.entries
  pub documents : last_point node ≡ fetched.base
      → (many : ℕ) → AreWithinDocument (node.log ++ take many fetched.entries)

-- Its numbers are within their bounds, its configuration breaks no rule, its entries continue its base, and
-- no rollback goes back before the commit point.
pub record CanTake (node : Node) (message : Message) : Type 0 where
  pub sender : message.from < 50
  pub term : message.term < 2 ^ 63
  pub asked : IfSome (term_asked message.body) (λ asked. asked < 2 ^ 63)
  pub config : IfSome (config_carried message.body) (λ config. rule config ≡ None)
  pub fetched : (reply : FetchReply) → message.body ≡ bodies.FetchReply reply
      → CanTakeEntries node message.term reply
  pub common :
      (after : OpTime) (optimes : List OpTime) (visible : OpTime)
      → message.body ≡ bodies.CommonReply after optimes visible
      → rollback_reason (termed node message) message.term after optimes visible ≡ None
      → AtMost node.commit (common_point node.log after optimes)
