-- How a node answers another one that asks for what comes after a commit point.
use Rattle.std.proofs.Common.{◌≡◌, ℕ, Bool, true, false, List}
use Rattle.rs_optime.specs.declared.optime.OpTime.{OpTime}
use Rattle.repl_msg.specs.Logs.{log_after}
use Rattle.repl_msg.specs.declared.message.Body.TheVariants as bodies
use Rattle.repl_msg.specs.declared.record.Record.{Record}
use Rattle.set_model.specs.Node.{Node}
use Rattle.set_model.specs.Points.{visible_log, visible_point}
use Rattle.set_model.specs.Rollback.{common_reply, optimes_of}
use Rattle.node_messages.specs.Ahead.{taking}
use Rattle.node_messages.proofs.ForeseenLemmas.{there}

pub common_body : (raised : Bool) (term : ℕ) (node : Node) (after visible : OpTime) (optimes : List OpTime)
    → optimes ≡ optimes_of (log_after after (visible_log (taking raised term node))) → visible ≡ visible_point (taking raised term node)
    → (items : List Record) → bodies.CommonReply after optimes visible ≡ common_reply (there raised term node items) after
common_body true term node after visible optimes optimes_is visible_is items = λ i. bodies.CommonReply after (optimes_is i) (visible_is i)
common_body false term node after visible optimes optimes_is visible_is items = λ i. bodies.CommonReply after (optimes_is i) (visible_is i)
