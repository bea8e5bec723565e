-- Every answer to a fetch can be taken by the node that asked for it (MongoDB's replication architecture
-- guide, oplog fetching).
use Rattle.std.specs.Prelude.{◌≡◌, ◌≤◌, ℕ, ◌++◌, List, length, take, All, Contains}
use Rattle.oplog_store.specs.Log.{IsOplog}
pub use Rattle.entry_bytes.specs.Sizes.{IsWithinEntry}
use Rattle.repl_msg.specs.declared.message.Body.TheVariants as bodies
use Rattle.repl_msg.specs.declared.message.FetchReply.{FetchReply}
use Rattle.repl_msg.specs.declared.message.Message.{Message}
use Rattle.set_model.specs.declared.command.Event.{Event}
pub use Rattle.set_model.specs.Fetched.{Follows, AreWithinDocument}
use Rattle.set_model.specs.Node.{Node}
use Rattle.set_model.specs.Points.{last_point}
use Rattle.set_model.specs.Run.{HISTORY_LIMIT, Sizes, run}
use Rattle.set_model.specs.Safety.{IsAt}

-- The entries of an answer continue its base: they are in order, none is too large, and none is of a later
-- term than the message. Appended to a node's log that ends at the base, no prefix of them leaves a document
-- that is too large.
pub record RepliesFollowAt (sizes : Sizes) (events : List Event) (message : Message)
    (fetched : FetchReply) : Type 0 where
  pub order : IsOplog fetched.entries
  pub base : All (Follows fetched.base) fetched.entries
  pub entries : All IsWithinEntry fetched.entries
  pub terms : All (λ entry. entry.optime.term ≤ message.term) fetched.entries
  pub documents :
      (n : ℕ) (node : Node) → IsAt sizes events (length events) n node → last_point node ≡ fetched.base
      → (many : ℕ) → AreWithinDocument (node.log ++ take many fetched.entries)

-- After at most 4,294,967,295 events this holds of every answer to a fetch that was sent.
abbrev pub RepliesFollow : Sizes → List Event → Type 0
RepliesFollow sizes events =
    (message : Message) (fetched : FetchReply) → length events ≤ HISTORY_LIMIT
    → Contains (run sizes events).world.messages message → message.body ≡ bodies.FetchReply fetched
    → RepliesFollowAt sizes events message fetched
