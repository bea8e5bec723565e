-- A node that leads after it took a message has a fit log, if it had one before.
use Rattle.std.proofs.Common.{◌≡◌, refl, ℕ, Bool, true, false, not, ◌&&◌, cond, nat_lt, ◌==◌, is_some, length, Option, None, Some, if◌then◌else◌, List}
use Rattle.rs_optime.specs.declared.optime.OpTime.{OpTime}
use Rattle.member_config.specs.Config.{is_newer}
use Rattle.member_config.specs.Voters.{is_member}
use Rattle.repl_msg.specs.declared.message.Beat.{Beat}
use Rattle.repl_msg.specs.declared.message.Body.{Body}
use Rattle.repl_msg.specs.declared.message.Body.TheVariants.{Fetch, FetchReply as Fetched, Report as Reported, VoteAsk as Asks, VoteReply, Heartbeat, HeartbeatReply, CommonAsk, CommonReply}
use Rattle.repl_msg.specs.declared.message.FetchReply.{FetchReply}
use Rattle.repl_msg.specs.declared.message.Message.{Message}
use Rattle.repl_msg.specs.declared.message.VoteAsk.{VoteAsk}
use Rattle.repl_msg.specs.declared.message.VoteRefusal.{VoteRefusal}
use Rattle.set_model.specs.declared.reply.Ignored.{Ignored}
use Rattle.set_model.specs.declared.reply.Ignored.TheVariants.{NotSecondary, OtherPlace}
use Rattle.set_model.specs.declared.reply.Reply.TheVariants as reply
use Rattle.set_model.specs.declared.role.Role.TheVariants as roles
use Rattle.set_model.specs.Beats.{heard, given_way, beat_told, beat_answered, beat_of, gives_way}
use Rattle.set_model.specs.Deliver.{body_refusal, brings_term, vote_reply_told, told, deliver}
use Rattle.set_model.specs.Fetching.{taken, entries_told}
use Rattle.set_model.specs.Node.{Node, DryTally}
use Rattle.set_model.specs.Outcome.{Outcome, replied, ignored, sending}
use Rattle.set_model.specs.Points.{last_point, same_optime}
use Rattle.set_model.specs.Reports.{report_told}
use Rattle.set_model.specs.Roles.{is_secondary, is_candidate, is_primary}
use Rattle.set_model.specs.Rollback.{common_told, common_point, roll_back, rollback_reason}
use Rattle.set_model.specs.Votes.{vote_asked, vote_decided, vote_refusal, vote_for, with_vote, vote_told, vote_counted, is_elected, dry_told, dry_counted}
use Rattle.safety_laws.proofs.FitNodes.{follower_fit, standing_of}
use Rattle.safety_laws.proofs.FitRows.{FitNow, FitOn, FitsOn, ended, follows, outcome_if, plan_if, plan_unless, plan_up, same}
use Rattle.safety_laws.proofs.Outcomes.{secondary_back, secondary_not}

module _ (node : Node) (fit : FitNow (standing_of node)) where
  -- entries that are taken come after the log of a secondary
  entries_fit : (from : ℕ) (fetched : FetchReply) → FitsOn (standing_of (entries_told node from fetched).node)
  entries_fit from fetched = go (is_secondary node.role) refl
    where
      go : (b : Bool) → is_secondary node.role ≡ b
          → FitsOn (standing_of (if not b then ignored NotSecondary node else if not (fetched.holds && same_optime fetched.base (last_point node)) then ignored OtherPlace node
          else replied (reply.Took (length fetched.entries) (last_point (taken node from fetched))) (taken node from fetched)).node)
      go false is = same (standing_of node) fit
      go true is = outcome_if (not (fetched.holds && same_optime fetched.base (last_point node))) _ _ (λ other. same (standing_of node) fit) (λ here. follows _ (secondary_not node.role is))

  report_fits : (from term : ℕ) (config : ℕ × ℕ) (durable : OpTime) → FitsOn (standing_of (report_told node from term config durable).node)
  report_fits from term config durable =
      outcome_if (nat_lt term node.term) _ _ (λ is. same (standing_of node) fit) (λ is.
      outcome_if (not (is_primary node.role)) _ _ (λ other. same (standing_of node) fit) (λ primary.
      outcome_if (not (is_member node.config from)) _ _ (λ other. same (standing_of node) fit) (λ member. same (standing_of node) fit)))

  vote_asked_fits : (next from : ℕ) (ask : VoteAsk) → FitOn (vote_asked next node from ask)
  vote_asked_fits next from ask = go (vote_refusal node ask)
    where
      go : (why : Option VoteRefusal) → FitOn (vote_decided next node from ask why)
      go why =
          plan_if (not ask.dry && nat_lt node.term ask.asked) _ _ (λ is. (ended _ refl, follows _ refl)) (λ is.
          plan_if (not ask.dry && (ask.asked == node.term && is_some (vote_for from why))) _ _ (λ given. (ended _ refl, same (standing_of node) fit)) (λ none. same (standing_of node) fit))

  dry_fits : (from asked : ℕ) (why : Option VoteRefusal) (tally : Option DryTally) → FitsOn (standing_of (dry_told node from asked why tally).node)
  dry_fits from asked why None = same (standing_of node) fit
  dry_fits from asked why (Some tally) = outcome_if (tally.term == asked && asked == node.term) _ _ (λ is. counted why) (λ is. same (standing_of node) fit)
    where
      counted : (reason : Option VoteRefusal) → FitsOn (standing_of (dry_counted node tally from reason).node)
      counted None = same (standing_of node) fit
      counted (Some reason) = same (standing_of node) fit

  -- who wins is draining
  vote_fits : (from asked : ℕ) (why : Option VoteRefusal) → FitsOn (standing_of (vote_told node from asked why).node)
  vote_fits from asked why =
      outcome_if (not (is_candidate node.role)) _ _ (λ is. same (standing_of node) fit) (λ is.
      outcome_if (not (asked == node.term)) _ _ (λ other. same (standing_of node) fit) (λ here. counted why))
    where
      counted : (reason : Option VoteRefusal) → FitsOn (standing_of (vote_counted node from reason).node)
      counted None = outcome_if (is_elected (record node { tally = with_vote node.config node.tally from })) _ _ (λ is up leads. follower_fit _ refl (fit up).stored (fit up).ascends) (λ is. same (standing_of node) fit)
      counted (Some reason) = same (standing_of node) fit

  vote_reply_fits : (from asked : ℕ) (dry : Bool) (why : Option VoteRefusal) → FitsOn (standing_of (vote_reply_told node from asked dry why).node)
  vote_reply_fits from asked true why = dry_fits from asked why node.dry_tally
  vote_reply_fits from asked false why = vote_fits from asked why

  -- a node that gives way doesn't lead
  given_fits : (gives : Bool) → FitsOn (record { up = node.up; role = cond gives roles.Secondary node.role; term = node.term; log = node.log; writers = node.writers })
  given_fits true = follows _ refl
  given_fits false = same (standing_of node) fit

  heard_fits : (from : ℕ) (beat : Beat) (answer : Node → Outcome) → ((n : Node) → FitsOn (standing_of n) → FitsOn (standing_of (answer n).node)) → FitOn (heard node from beat answer)
  heard_fits from beat answer goes =
      plan_if (is_secondary (given_way node beat).role && is_newer beat.config (given_way node beat).config) _ _
      (λ is. (ended _ refl, goes _ (given_fits (gives_way node beat)))) (λ is. goes _ (given_fits (gives_way node beat)))

  beat_told_fits : (next from term : ℕ) (beat : Beat) → FitOn (beat_told next node from term beat)
  beat_told_fits next from term beat = plan_if (nat_lt term node.term) _ _ (λ is. same (standing_of node) fit) (λ is. heard_fits from beat (λ n. sending (reply.Replied next) n from (HeartbeatReply (beat_of n))) (λ n fits. fits))

  beat_answered_fits : (from term : ℕ) (beat : Beat) → FitOn (beat_answered node from term beat)
  beat_answered_fits from term beat = plan_if (nat_lt term node.term) _ _ (λ is. same (standing_of node) fit) (λ is. heard_fits from beat (λ n. replied reply.Heard n) (λ n fits. fits))

  common_fits : (term : ℕ) (after : OpTime) (optimes : List OpTime) (visible : OpTime) → FitOn (common_told node term after optimes visible)
  common_fits term after optimes visible = go (rollback_reason node term after optimes visible) refl
    where
      go : (why : Option Ignored) → rollback_reason node term after optimes visible ≡ why → FitOn (roll_back node (common_point node.log after optimes) why)
      go (Some why) is = same (standing_of node) fit
      go None is = (ended _ refl, follows _ (secondary_not node.role (secondary_back node term after optimes visible is)))

told_fits : (next from term : ℕ) (body : Body) (node : Node) → FitNow (standing_of node) → FitOn (told next from term body node)
told_fits next from term (Fetch base) node fit = same (standing_of node) fit
told_fits next from term (Fetched fetched) node fit = entries_fit node fit from fetched
told_fits next from term (Reported config durable) node fit = report_fits node fit from term config durable
told_fits next from term (Asks ask) node fit = vote_asked_fits node fit next from ask
told_fits next from term (VoteReply asked dry why) node fit = vote_reply_fits node fit from asked dry why
told_fits next from term (Heartbeat beat) node fit = beat_told_fits node fit next from term beat
told_fits next from term (HeartbeatReply beat) node fit = beat_answered_fits node fit from term beat
told_fits next from term (CommonAsk after) node fit = same (standing_of node) fit
told_fits next from term (CommonReply after optimes visible) node fit = common_fits node fit term after optimes visible

pub deliver_fits : (next : ℕ) (node : Node) (message : Message) → FitNow (standing_of node) → FitOn (deliver next node message)
deliver_fits next node message fit =
    plan_up node _ fit (λ up. plan_unless node (body_refusal node message.term message.body) _ fit
    (plan_if (brings_term message.body && nat_lt node.term message.term) _ _
    (λ is. (ended _ refl, told_fits next message.from message.term message.body _ (λ up. follower_fit _ refl (fit up).stored (fit up).ascends)))
    (λ is. told_fits next message.from message.term message.body node fit)))
