-- A message that brings a higher term is prepared while the node is still in its own term.
use Rattle.std.specs.Prelude.{◌≡◌, ℕ, nat_lt, Bool, true, false, List, None, if◌then◌else◌}
use Rattle.rs_optime.specs.declared.optime.OpTime.{OpTime}
use Rattle.repl_msg.specs.declared.message.Body.{Body}
use Rattle.repl_msg.specs.declared.message.Body.TheVariants as bodies
use Rattle.repl_msg.specs.declared.record.Record.{Record}
use Rattle.set_model.specs.Changes.{in_new_term}
use Rattle.set_model.specs.Node.{Node}
use Rattle.set_model.specs.Points.{visible_point}
use Rattle.set_model.specs.Stores.{Plan}
use Rattle.node_state.specs.StateView.{StateView}
use Rattle.node_state.specs.MessageContinuation.{message_plan}
use Rattle.node_messages.specs.declared.preparing.InTerm.{InTerm}
use Rattle.node_state.specs.declared.turn.MessageContinuation.{MessageContinuation}

-- the node that takes a message: it has the message's term already, if that is higher
abbrev pub taking : Bool → ℕ → Node → Node
taking raised term node = if raised then in_new_term node term None else node

-- the same, deciding by the term whether it is higher
abbrev pub in_term : ℕ → Node → Node
in_term term node = taking (nat_lt node.term term) term node

-- the term and the role that the node then has, and how far its log is then visible
pub record IsInTerm (own : InTerm) (message : ℕ) (node : Node) : Type 0 where
  pub term_is : own.term ≡ (in_term message node).term
  pub role_is : own.role ≡ (in_term message node).role
  pub visible_is : own.visible ≡ visible_point (in_term message node)

-- the same for a node with its room
abbrev pub view_in_term : Bool → ℕ → StateView → StateView
view_in_term raised term standing = record standing { node = taking raised term standing.node }

-- at that node this does what the plan says, whatever is stored before
abbrev pub ComesTo : MessageContinuation → Bool → ℕ → (Node → Plan) → Node → Node → Type 0
ComesTo told raised term plan old new =
    (items : List Record) → message_plan told (taking raised term (record new { records = items }))
    ≡ plan (taking raised term (record old { records = items }))

-- and nothing has changed but how far the log is applied
pub record IsPreparedFor (told : MessageContinuation) (raised : Bool) (term : ℕ) (plan : Node → Plan)
    (old new : Node) : Type 0 where
  pub comes_to : ComesTo told raised term plan old new
  pub at : OpTime
  pub same : new ≡ record old { applied = at }

-- a message that is prepared so: after its term is taken, it needs no more memory
abbrev pub is_prepared : Body → Bool
is_prepared (bodies.Fetch base) = true
is_prepared (bodies.FetchReply reply) = true
is_prepared (bodies.Report config durable) = false
is_prepared (bodies.VoteAsk ask) = false
is_prepared (bodies.VoteReply asked dry why) = false
is_prepared (bodies.Heartbeat beat) = true
is_prepared (bodies.HeartbeatReply beat) = true
is_prepared (bodies.CommonAsk after) = true
is_prepared (bodies.CommonReply after optimes visible) = true
