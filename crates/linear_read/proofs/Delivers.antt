-- What each message leaves at the node that gets it. A message writes nothing.
use Rattle.std.proofs.Common.{◌≡◌, refl, ℕ, Bool, true, false, not, ◌&&◌, ◌==◌, nat_lt, cond, is_some, take, Option, None, Some, List, []}
use Rattle.rs_optime.specs.declared.optime.OpTime.{OpTime}
use Rattle.oplog_entry.specs.declared.entry.Entry.{Entry}
use Rattle.member_config.specs.Config.{is_newer}
use Rattle.member_config.specs.Voters.{is_member}
use Rattle.repl_msg.specs.Parts.{entries_carried}
use Rattle.repl_msg.specs.declared.message.Beat.{Beat}
use Rattle.repl_msg.specs.declared.message.Body.{Body}
use Rattle.repl_msg.specs.declared.message.Body.TheVariants as bodies
use Rattle.repl_msg.specs.declared.message.FetchReply.{FetchReply}
use Rattle.repl_msg.specs.declared.message.Message.{Message}
use Rattle.repl_msg.specs.declared.message.VoteAsk.{VoteAsk}
use Rattle.repl_msg.specs.declared.message.VoteRefusal.{VoteRefusal}
use Rattle.set_model.specs.declared.reply.Ignored.{Ignored}
use Rattle.set_model.specs.declared.reply.Reply.TheVariants as reply
use Rattle.set_model.specs.declared.role.Role.{Role}
use Rattle.set_model.specs.declared.role.Role.TheVariants as roles
use Rattle.set_model.specs.Beats.{heard, given_way, beat_told, beat_answered, beat_of}
use Rattle.set_model.specs.Changes.{in_new_term}
use Rattle.set_model.specs.Deliver.{body_refusal, brings_term, vote_reply_told, told, deliver}
use Rattle.set_model.specs.Fetching.{holds, reply_to, entries_told}
use Rattle.set_model.specs.Node.{Node, DryTally}
use Rattle.set_model.specs.Outcome.{Outcome, replied, sending}
use Rattle.set_model.specs.Points.{last_point, log_after, visible_log, same_optime}
use Rattle.set_model.specs.Reports.{report_told}
use Rattle.set_model.specs.Roles.{is_secondary, is_candidate, is_primary}
use Rattle.set_model.specs.Rollback.{common_told, common_point, roll_back, rollback_reason, cut_record}
use Rattle.set_model.specs.Stores.{stored, vote_record, config_record}
use Rattle.set_model.specs.Votes.{vote_asked, vote_decided, vote_answered, vote_refusal, vote_for, with_vote, vote_told, vote_counted, is_elected, dry_told, dry_counted}
use Rattle.linear_read.proofs.Held.{AreSuch, Holds, Comes, PlanComes, quiet, says, take_such, filter_such, append_such, visible_such, lost_has, other_role, stored_holds, doubt_holds}
use Rattle.linear_read.proofs.Rows.{plan_if, end_if, plan_unless, plan_up}

-- a vote of this term is kept, and the node is a secondary of that term
turned_holds : (P : Entry → Type 0) (node : Node) (term : ℕ) (vote : Option ℕ) → Holds P node → Holds P (in_new_term (stored node (vote_record term vote)) term vote)
turned_holds P node term vote ok = (lost_has P term roles.Secondary node.log node.writers ok.0.such, (stored_holds P node (vote_record term vote) ok tt).1)

-- a candidate isn't primary, whether it gives way or not
given_way_holds : (P : Entry → Type 0) (node : Node) (beat : Beat) → Holds P node → Holds P (given_way node beat)
given_way_holds P node beat ok = (record { such = ok.0.such; slots = λ number at op there. (way node.role beat.primary (ok.0.slots number at op there).0, (ok.0.slots number at op there).1) }, ok.1)
  where
    way : (role : Role) (primary : Bool) → role ≡ roles.Primary → cond (is_candidate role && primary) roles.Secondary role ≡ roles.Primary
    way roles.Primary primary is = refl
    way roles.Secondary primary is = absurd (cc is)
    way roles.Candidate primary is = absurd (cc is)
    way roles.Draining primary is = absurd (cc is)

module _ (P : Entry → Type 0) (old : Node) (from : ℕ) where
  fetch_told_comes : (next : ℕ) (node : Node) (base : OpTime) → Holds P node → Comes P old (sending (reply.Replied next) node from (bodies.FetchReply (reply_to node base)))
  fetch_told_comes next node base ok = says P old _ node from (bodies.FetchReply (reply_to node base)) ok (go (holds node base))
    where
      go : (b : Bool) → AreSuch P (cond b (take 5000 (log_after base (visible_log node))) [])
      go true = take_such P 5000 (log_after base (visible_log node)) (filter_such P _ (visible_log node) (visible_such P node ok.0.such))
      go false = λ entry there. absurd there

  entries_comes : (node : Node) (fetched : FetchReply) → Holds P node → AreSuch P fetched.entries → Comes P old (entries_told node from fetched)
  entries_comes node fetched ok such =
      end_if P old (not (is_secondary node.role)) _ _ (λ is. quiet P old _ node ok) (λ is.
      end_if P old (not (fetched.holds && same_optime fetched.base (last_point node))) _ _ (λ other. quiet P old _ node ok) (λ here. quiet P old _ _ (
        record { such = append_such P node.log fetched.entries ok.0.such such; slots = ok.0.slots },
        ok.1,
      )))

  report_comes : (node : Node) (term : ℕ) (config : ℕ × ℕ) (durable : OpTime) → Holds P node → Comes P old (report_told node from term config durable)
  report_comes node term config durable ok =
      end_if P old (nat_lt term node.term) _ _ (λ is. quiet P old _ node ok) (λ is.
      end_if P old (not (is_primary node.role)) _ _ (λ other. quiet P old _ node ok) (λ primary.
      end_if P old (not (is_member node.config from)) _ _ (λ other. quiet P old _ node ok) (λ member. quiet P old _ _ ok)))

  vote_asked_comes : (next : ℕ) (node : Node) (ask : VoteAsk) → Holds P node → PlanComes P old (vote_asked next node from ask)
  vote_asked_comes next node ask ok = go (vote_refusal node ask)
    where
      answered : (why : Option VoteRefusal) (n : Node) → Holds P n → PlanComes P old (vote_answered next from ask why n)
      answered why n has = says P old _ n from (bodies.VoteReply ask.asked ask.dry why) has (λ entry there. absurd there)

      go : (why : Option VoteRefusal) → PlanComes P old (vote_decided next node from ask why)
      go why =
          plan_if P old (not ask.dry && nat_lt node.term ask.asked) _ _
          (λ is. (
            doubt_holds P node (vote_record ask.asked (vote_for from why)) ok tt,
            answered why _ (turned_holds P node ask.asked (vote_for from why) ok),
          ))
          (λ is. plan_if P old (not ask.dry && (ask.asked == node.term && is_some (vote_for from why))) _ _
          (λ given. (
            doubt_holds P node (vote_record node.term (Some from)) ok tt,
            answered why _ (stored_holds P node (vote_record node.term (Some from)) ok tt),
          ))
          (λ none. answered why node ok))

  dry_comes : (node : Node) (asked : ℕ) (why : Option VoteRefusal) (tally : Option DryTally) → Holds P node → Comes P old (dry_told node from asked why tally)
  dry_comes node asked why None ok = quiet P old _ node ok
  dry_comes node asked why (Some tally) ok = end_if P old (tally.term == asked && asked == node.term) _ _ (λ is. counted why) (λ is. quiet P old _ node ok)
    where
      counted : (reason : Option VoteRefusal) → Comes P old (dry_counted node tally from reason)
      counted None = quiet P old _ _ ok
      counted (Some reason) = quiet P old _ node ok

  vote_told_comes : (node : Node) (asked : ℕ) (why : Option VoteRefusal) → Holds P node → Comes P old (vote_told node from asked why)
  vote_told_comes node asked why ok =
      end_if P old (not (is_candidate node.role)) _ _ (λ is. quiet P old _ node ok) (λ is.
      end_if P old (not (asked == node.term)) _ _ (λ other. quiet P old _ node ok) (λ here. counted is why))
    where
      -- a candidate has no open slot
      apart : (role : Role) → not (is_candidate role) ≡ false → role ≡ roles.Primary → ⊥
      apart role candidate primary = absurd (cc (candidate, primary))

      counted : not (is_candidate node.role) ≡ false → (reason : Option VoteRefusal) → Comes P old (vote_counted node from reason)
      counted candidate None = end_if P old (is_elected (record node { tally = with_vote node.config node.tally from })) _ _
          (λ is. quiet P old _ _ (other_role P node.term node.role roles.Draining node.log node.writers (apart node.role candidate) ok.0, ok.1))
          (λ is. quiet P old _ _ ok)
      counted candidate (Some reason) = quiet P old _ node ok

  vote_reply_comes : (node : Node) (asked : ℕ) (dry : Bool) (why : Option VoteRefusal) → Holds P node → Comes P old (vote_reply_told node from asked dry why)
  vote_reply_comes node asked true why ok = dry_comes node asked why node.dry_tally ok
  vote_reply_comes node asked false why ok = vote_told_comes node asked why ok

  heard_comes : (node : Node) (beat : Beat) (answer : Node → Outcome) → Holds P node → ((n : Node) → Holds P n → Comes P old (answer n)) → PlanComes P old (heard node from beat answer)
  heard_comes node beat answer ok comes =
      plan_if P old (is_secondary (given_way node beat).role && is_newer beat.config (given_way node beat).config) _ _
      (λ is. (
        doubt_holds P (given_way node beat) (config_record beat.config) (given_way_holds P node beat ok) tt,
        comes _ (stored_holds P (given_way node beat) (config_record beat.config) (given_way_holds P node beat ok) tt),
      ))
      (λ is. comes _ (given_way_holds P node beat ok))

  beat_told_comes : (next : ℕ) (node : Node) (term : ℕ) (beat : Beat) → Holds P node → PlanComes P old (beat_told next node from term beat)
  beat_told_comes next node term beat ok = plan_if P old (nat_lt term node.term) _ _ (λ is. quiet P old _ node ok) (λ is.
      heard_comes node beat (λ n. sending (reply.Replied next) n from (bodies.HeartbeatReply (beat_of n))) ok
      (λ n has. says P old _ n from (bodies.HeartbeatReply (beat_of n)) has (λ entry there. absurd there)))

  beat_answered_comes : (node : Node) (term : ℕ) (beat : Beat) → Holds P node → PlanComes P old (beat_answered node from term beat)
  beat_answered_comes node term beat ok = plan_if P old (nat_lt term node.term) _ _ (λ is. quiet P old _ node ok) (λ is.
      heard_comes node beat (λ n. replied reply.Heard n) ok (λ n has. quiet P old _ n has))

  common_told_comes : (node : Node) (term : ℕ) (after : OpTime) (optimes : List OpTime) (visible : OpTime) → Holds P node → PlanComes P old (common_told node term after optimes visible)
  common_told_comes node term after optimes visible ok = go (rollback_reason node term after optimes visible)
    where
      go : (why : Option Ignored) → PlanComes P old (roll_back node (common_point node.log after optimes) why)
      go (Some why) = quiet P old _ node ok
      go None = (
        doubt_holds P node (cut_record (common_point node.log after optimes)) ok tt,
        quiet P old _ _ (
          record { such = filter_such P _ node.log ok.0.such; slots = ok.0.slots },
          (stored_holds P node (cut_record (common_point node.log after optimes)) ok tt).1,
        ),
      )

  told_comes : (next term : ℕ) (body : Body) (node : Node) → Holds P node → AreSuch P (entries_carried body) → PlanComes P old (told next from term body node)
  told_comes next term (bodies.Fetch base) node ok such = fetch_told_comes next node base ok
  told_comes next term (bodies.FetchReply fetched) node ok such = entries_comes node fetched ok such
  told_comes next term (bodies.Report config durable) node ok such = report_comes node term config durable ok
  told_comes next term (bodies.VoteAsk ask) node ok such = vote_asked_comes next node ask ok
  told_comes next term (bodies.VoteReply asked dry why) node ok such = vote_reply_comes node asked dry why ok
  told_comes next term (bodies.Heartbeat beat) node ok such = beat_told_comes next node term beat ok
  told_comes next term (bodies.HeartbeatReply beat) node ok such = beat_answered_comes node term beat ok
  told_comes next term (bodies.CommonAsk after) node ok such = says P old _ node from (bodies.CommonReply _ _ _) ok (λ entry there. absurd there)
  told_comes next term (bodies.CommonReply after optimes visible) node ok such = common_told_comes node term after optimes visible ok

pub deliver_comes : (P : Entry → Type 0) (next : ℕ) (node : Node) (message : Message) → Holds P node → AreSuch P (entries_carried message.body) → PlanComes P node (deliver next node message)
deliver_comes P next node message ok such =
    plan_up P node node _ ok (λ up. plan_unless P node node (body_refusal node message.term message.body) _ ok
    (plan_if P node (brings_term message.body && nat_lt node.term message.term) _ _
    (λ is. (
      doubt_holds P node (vote_record message.term None) ok tt,
      told_comes P node message.from next message.term message.body _ (turned_holds P node message.term None ok) such,
    ))
    (λ is. told_comes P node message.from next message.term message.body node ok such)))
