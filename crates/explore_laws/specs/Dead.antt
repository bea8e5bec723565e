-- Dead messages: their delivery can never again change their receiver, nor make it send.
use Rattle.std.specs.Prelude.{ℕ, ◌==◌, Bool, true, false, not, ◌&&◌, ◌||◌, nat_lt, nat_le, is_some, if◌then◌else◌, slice_get}
use Rattle.std.specs.List.{list_any}
use Rattle.std.specs.Option.{option_map_or}
use Rattle.repl_msg.specs.Kept.{kept}
use Rattle.repl_msg.specs.declared.message.Body.{Body}
use Rattle.repl_msg.specs.declared.message.Body.TheVariants as bodies
use Rattle.repl_msg.specs.declared.message.Message.{Message}
use Rattle.set_model.specs.declared.reply.Reply.{Reply}
use Rattle.set_model.specs.declared.reply.Reply.TheVariants as reply
use Rattle.set_model.specs.declared.role.Role.{Role}
use Rattle.set_model.specs.Node.{Node}
use Rattle.set_model.specs.Roles.{is_secondary, is_candidate}
use Rattle.set_model.specs.World.{World}

-- the term of a node; of one that is down, the term that its records have
abbrev pub term_of : Node → ℕ
term_of node = if node.up then node.term else (kept node.records).vote.term

-- what a message of a term says is dead at a node that is in its own term and role
abbrev pub is_dead_at : (own : ℕ) → Role → (term : ℕ) → Body → Bool
is_dead_at own role term (bodies.Heartbeat beat) = nat_lt term own
is_dead_at own role term (bodies.HeartbeatReply beat) = nat_lt term own
is_dead_at own role term (bodies.Report config durable) =
    nat_lt term own || (term == own && is_secondary role)
is_dead_at own role term (bodies.CommonReply after optimes visible) =
    nat_lt term own || (term == own && not (visible.term == own))
is_dead_at own role term (bodies.VoteReply asked dry why) =
    nat_le term own
    && (nat_lt asked own || (asked == own && (not dry && (is_some why || not (is_candidate role)))))
is_dead_at own role term (bodies.FetchReply reply) = nat_le term own && not reply.holds
is_dead_at own role term (bodies.VoteAsk ask) = false
is_dead_at own role term (bodies.Fetch base) = false
is_dead_at own role term (bodies.CommonAsk after) = false

abbrev pub is_dead : Node → Message → Bool
is_dead node message = is_dead_at (term_of node) node.role message.term message.body

-- at its receiver; one to no node of the set is dead
abbrev pub is_dead_in : World → Message → Bool
is_dead_in world message =
    option_map_or (λ node. is_dead node message) (slice_get world.nodes message.to) true

-- a message was sent that is dead now
abbrev pub has_dead : World → Bool
has_dead world = list_any (is_dead_in world) world.messages

-- ---- how its delivery is answered

-- the reply tells that a message wasn't taken
abbrev pub is_untaken : Reply → Bool
is_untaken (reply.Refused why) = true
is_untaken (reply.Ignored why) = true
is_untaken (reply.VoteRefused why) = true
is_untaken _ = false
