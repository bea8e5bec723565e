-- What each message leaves of a node that rests while it is down.
use Rattle.std.proofs.Common.{◌≡◌, ℕ, Bool, true, false, not, ◌&&◌, ◌==◌, nat_lt, is_some, Option, None, Some, List}
use Rattle.rs_optime.specs.declared.optime.OpTime.{OpTime}
use Rattle.member_config.specs.Config.{is_newer}
use Rattle.member_config.specs.Voters.{is_member}
use Rattle.repl_msg.specs.declared.message.Beat.{Beat}
use Rattle.repl_msg.specs.declared.message.Body.{Body}
use Rattle.repl_msg.specs.declared.message.Body.TheVariants as bodies
use Rattle.repl_msg.specs.declared.message.FetchReply.{FetchReply}
use Rattle.repl_msg.specs.declared.message.Message.{Message}
use Rattle.repl_msg.specs.declared.message.VoteAsk.{VoteAsk}
use Rattle.repl_msg.specs.declared.message.VoteRefusal.{VoteRefusal}
use Rattle.set_model.specs.declared.reply.Ignored.{Ignored}
use Rattle.set_model.specs.declared.reply.Reply.TheVariants as reply
use Rattle.set_model.specs.Beats.{heard, given_way, beat_told, beat_answered, beat_of}
use Rattle.set_model.specs.Deliver.{body_refusal, brings_term, vote_reply_told, told, deliver}
use Rattle.set_model.specs.Fetching.{entries_told}
use Rattle.set_model.specs.Node.{Node, DryTally}
use Rattle.set_model.specs.Outcome.{Outcome, replied, sending}
use Rattle.set_model.specs.Points.{last_point, same_optime}
use Rattle.set_model.specs.Reports.{report_told}
use Rattle.set_model.specs.Roles.{is_secondary, is_candidate, is_primary}
use Rattle.set_model.specs.Rollback.{common_told, common_point, roll_back, rollback_reason, cut_record}
use Rattle.set_model.specs.Stores.{vote_record, config_record}
use Rattle.set_model.specs.Votes.{vote_asked, vote_decided, vote_refusal, vote_for, with_vote, vote_told, vote_counted, is_elected, dry_told, dry_counted}
use Rattle.disk_laws.proofs.Resting.{PlanRests, Rests, breaks, end_if, plan_if, plan_unless, plan_up, stays}

module _ (from : ℕ) (node : Node) (up : node.up ≡ true) where
  abbrev Ends : Outcome → Type 0
  Ends outcome = Rests outcome.node

  quiet : Rests node
  quiet = stays node up

  entries_end : (fetched : FetchReply) → Ends (entries_told node from fetched)
  entries_end fetched =
      end_if (not (is_secondary node.role)) _ _ quiet
      (end_if (not (fetched.holds && same_optime fetched.base (last_point node))) _ _ quiet (stays _ up))

  report_ends : (term : ℕ) (config : ℕ × ℕ) (durable : OpTime) → Ends (report_told node from term config durable)
  report_ends term config durable =
      end_if (nat_lt term node.term) _ _ quiet
      (end_if (not (is_primary node.role)) _ _ quiet
      (end_if (not (is_member node.config from)) _ _ quiet (stays _ up)))

  vote_asked_rests : (next : ℕ) (ask : VoteAsk) → PlanRests (vote_asked next node from ask)
  vote_asked_rests next ask = go (vote_refusal node ask)
    where
      go : (why : Option VoteRefusal) → PlanRests (vote_decided next node from ask why)
      go why =
          plan_if (not ask.dry && nat_lt node.term ask.asked) _ _ (breaks node (vote_record ask.asked (vote_for from why)), stays _ up)
          (plan_if (not ask.dry && (ask.asked == node.term && is_some (vote_for from why))) _ _ (breaks node (vote_record node.term (Some from)), stays _ up) (stays _ up))

  dry_ends : (asked : ℕ) (why : Option VoteRefusal) (tally : Option DryTally) → Ends (dry_told node from asked why tally)
  dry_ends asked why None = quiet
  dry_ends asked why (Some tally) = end_if (tally.term == asked && asked == node.term) _ _ (counted why) quiet
    where
      counted : (reason : Option VoteRefusal) → Ends (dry_counted node tally from reason)
      counted None = stays _ up
      counted (Some reason) = quiet

  vote_told_ends : (asked : ℕ) (why : Option VoteRefusal) → Ends (vote_told node from asked why)
  vote_told_ends asked why = end_if (not (is_candidate node.role)) _ _ quiet (end_if (not (asked == node.term)) _ _ quiet (counted why))
    where
      counted : (reason : Option VoteRefusal) → Ends (vote_counted node from reason)
      counted None = end_if (is_elected (record node { tally = with_vote node.config node.tally from })) _ _ (stays _ up) (stays _ up)
      counted (Some reason) = quiet

  vote_reply_ends : (asked : ℕ) (dry : Bool) (why : Option VoteRefusal) → Ends (vote_reply_told node from asked dry why)
  vote_reply_ends asked true why = dry_ends asked why node.dry_tally
  vote_reply_ends asked false why = vote_told_ends asked why

  heard_rests : (beat : Beat) (answer : Node → Outcome) → ((n : Node) → n.up ≡ true → Ends (answer n)) → PlanRests (heard node from beat answer)
  heard_rests beat answer ends = plan_if (is_secondary (given_way node beat).role && is_newer beat.config (given_way node beat).config) _ _
      (breaks (given_way node beat) (config_record beat.config), ends _ up) (ends _ up)

  beat_told_rests : (next term : ℕ) (beat : Beat) → PlanRests (beat_told next node from term beat)
  beat_told_rests next term beat = plan_if (nat_lt term node.term) _ _ quiet (heard_rests beat (λ n. sending (reply.Replied next) n from (bodies.HeartbeatReply (beat_of n))) (λ n is. stays n is))

  beat_answered_rests : (term : ℕ) (beat : Beat) → PlanRests (beat_answered node from term beat)
  beat_answered_rests term beat = plan_if (nat_lt term node.term) _ _ quiet (heard_rests beat (λ n. replied reply.Heard n) (λ n is. stays n is))

  common_told_rests : (term : ℕ) (after : OpTime) (optimes : List OpTime) (visible : OpTime) → PlanRests (common_told node term after optimes visible)
  common_told_rests term after optimes visible = go (rollback_reason node term after optimes visible)
    where
      go : (why : Option Ignored) → PlanRests (roll_back node (common_point node.log after optimes) why)
      go (Some why) = quiet
      go None = (breaks node (cut_record (common_point node.log after optimes)), stays _ up)

  told_rests : (next term : ℕ) (body : Body) → PlanRests (told next from term body node)
  told_rests next term (bodies.Fetch base) = stays _ up
  told_rests next term (bodies.FetchReply fetched) = entries_end fetched
  told_rests next term (bodies.Report config durable) = report_ends term config durable
  told_rests next term (bodies.VoteAsk ask) = vote_asked_rests next ask
  told_rests next term (bodies.VoteReply asked dry why) = vote_reply_ends asked dry why
  told_rests next term (bodies.Heartbeat beat) = beat_told_rests next term beat
  told_rests next term (bodies.HeartbeatReply beat) = beat_answered_rests term beat
  told_rests next term (bodies.CommonAsk after) = stays _ up
  told_rests next term (bodies.CommonReply after optimes visible) = common_told_rests term after optimes visible

pub deliver_rests : (next : ℕ) (node : Node) (message : Message) → Rests node → PlanRests (deliver next node message)
deliver_rests next node message rests =
    plan_up node _ rests (λ up. plan_unless node (body_refusal node message.term message.body) _ rests
    (plan_if (brings_term message.body && nat_lt node.term message.term) _ _
    (breaks node (vote_record message.term None), told_rests message.from _ up next message.term message.body)
    (told_rests message.from node up next message.term message.body)))
