-- What a message may bring, and entries that go on after a node's log.
use Rattle.std.proofs.Common.{◌≡◌, ◌&&◌, Bool, true, false, List, ◌++◌, sym, subst}
use Rattle.std.specs.List.{All}
use Rattle.rs_optime.specs.declared.optime.OpTime.{OpTime}
use Rattle.oplog_entry.specs.Visible.{last_of}
use Rattle.oplog_entry.specs.declared.entry.Entry.{Entry}
use Rattle.oplog_store.specs.Log.{IsOplog}
use Rattle.repl_msg.specs.Fetching.{continues}
use Rattle.repl_msg.specs.Logs.{same_optime}
use Rattle.repl_msg.specs.declared.message.FetchReply.{FetchReply}
use Rattle.repl_msg.proofs.HasLemmas.{same_is}
use Rattle.set_model.specs.Fetched.{Follows}
use Rattle.checker_node.specs.Sound.{GoOn}
use Rattle.node_messages.proofs.FetchedLemmas.{joined_oplog}

base_is : (last : OpTime) (reply : FetchReply) → continues last reply ≡ true → reply.base ≡ last
base_is last reply continues = by_holds reply.holds continues
  where
    by_holds : (b : Bool) → (b && same_optime reply.base last) ≡ true → reply.base ≡ last
    by_holds true is = same_is reply.base last is
    by_holds false is = absurd (cc is)

pub fetched_oplog : (log entries : List Entry) (reply : FetchReply) → continues (last_of log) reply ≡ true → entries ≡ reply.entries → GoOn reply → IsOplog log → IsOplog (log ++ entries)
fetched_oplog log entries reply continues are goes oplog =
    subst (λ (more : List Entry). IsOplog (log ++ more)) (sym are)
    (joined_oplog log reply.entries oplog goes.order
    (subst (λ (o : OpTime). All (Follows o) reply.entries) (base_is (last_of log) reply continues) goes.base))
