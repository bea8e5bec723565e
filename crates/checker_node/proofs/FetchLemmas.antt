-- What a node answers to a fetch.
use Rattle.std.proofs.Common.{◌≡◌, ◌∙◌, ap, Bool}
use Rattle.std.specs.List.{AllPairs}
use Rattle.std.specs.FinSet as sets
use Rattle.rs_optime.specs.declared.optime.OpTime.{OpTime}
use Rattle.oplog_entry.specs.Visible.{least}
use Rattle.oplog_fetcher.specs.Fetch.{reply_to as answered}
use Rattle.oplog_store.specs.Log.{StandsBefore}
use Rattle.repl_msg.specs.declared.message.FetchReply.{FetchReply}
use Rattle.set_model.specs.Fetching.{reply_to}
use Rattle.set_model.specs.Node.{Node}
use Rattle.set_model.specs.Points.{visible_point}
use Rattle.set_model.specs.Roles.{is_primary}
use Rattle.node_messages.proofs.FrontLemmas.{shown_reply}

-- a reply by the visible optime is one by the visible log
pub told_reply : (node : Node) (base visible : OpTime) (primary : Bool) (given : FetchReply) → AllPairs StandsBefore node.log → visible ≡ visible_point node → primary ≡ is_primary node.role
    → given ≡ answered node.log visible base node.commit primary → given ≡ reply_to node base
told_reply node base visible primary given order visible_is primary_is given_is =
    given_is ∙ ap (λ (v : OpTime). answered node.log v base node.commit primary) visible_is ∙ ap (answered node.log (visible_point node) base node.commit) primary_is
    ∙ shown_reply (least (sets.items node.slots)) node.log order base node.commit (is_primary node.role)
